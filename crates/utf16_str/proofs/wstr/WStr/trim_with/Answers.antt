use Rattle.utf16_str.specs.WStr.{wstr_text}
use Rattle.utf16_str.proofs.AffixLemmas.{bytes_lie}
use Rattle.utf16_str.proofs.wstr.WStr.trim_with.Goals as goal

pub returns-clause-text : goal.returns-clause-text
returns-clause-text g c = record { middle = wstr_text c.trim_start_by.result; start = c.trim_start_by.ensures.text; end = c.trim_end_by.ensures.text }

pub returns-clause-bytes : goal.returns-clause-bytes
returns-clause-bytes g c = record {
  rest = wstr_text c.trim_start_by.result;
  start = c.trim_start_by.ensures.text;
  is = bytes_lie _ _ _ _ c.args.self.well_formed c.trim_start_by.result.well_formed c.trim_start_by.ensures.bytes c.trim_end_by.ensures.bytes;
}

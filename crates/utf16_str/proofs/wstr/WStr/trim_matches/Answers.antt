use Rattle.utf16_str.specs.WStr.{wstr_text}
use Rattle.utf16_str.proofs.wstr.WStr.trim_matches.Goals as goal

pub returns : goal.returns
returns g c = record {
  middle = wstr_text c.trim_start_matches.result;
  start = c.trim_start_matches.ensures.text;
  end = c.trim_end_matches.ensures.text;
}

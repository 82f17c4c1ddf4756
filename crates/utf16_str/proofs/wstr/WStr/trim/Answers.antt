use Rattle.std.proofs.Common.{◌≡◌, ◌+◌, ◌-◌, length, subst}
use Rattle.utf16_units.specs.Encoding.{size}
use Rattle.utf16_str.specs.Window.{bytes_between}
use Rattle.utf16_str.specs.WStr.{wstr_bytes, wstr_text}
use Rattle.utf16_str.proofs.AffixLemmas.{bytes_lie}
use Rattle.utf16_str.proofs.wstr.WStr.trim.Goals as goal

pub returns-clause-bytes : goal.returns-clause-bytes
returns-clause-bytes g c =
    let text = c.args.self in
    let part = wstr_bytes c.trim_end.result in
    let lies = bytes_lie _ _ _ part text.well_formed c.trim_start.result.well_formed c.trim_start.ensures.bytes c.trim_end.ensures.bytes in
    subst (λ t. let start = size (wstr_text text) - size t in part ≡ bytes_between (wstr_bytes text) start (start + length part)) c.trim_start.ensures.text lies

use Rattle.std.proofs.Common.{ap, ◌∙◌}
use Rattle.std.specs.Char.{encode_utf8}
use Rattle.utf16_transcode.proofs.FirstBytes.{three}
use Rattle.utf16_transcode.proofs.chars.char_of_three.Goals as goal

pub returns : goal.returns
returns c = ap encode_utf8 c.from_u32_unchecked.ensures ∙ three c.args.lead c.args.second c.requires.begins c.args.third c.requires.goes_on c.requires.three.0 c.requires.three.1

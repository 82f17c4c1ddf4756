use Rattle.std.proofs.Common.{ap, ◌∙◌}
use Rattle.std.specs.Char.{encode_utf8}
use Rattle.utf16_transcode.proofs.FirstBytes.{two}
use Rattle.utf16_transcode.proofs.chars.char_of_two.Goals as goal

pub returns : goal.returns
returns c = ap encode_utf8 c.from_u32_unchecked.ensures ∙ two c.args.lead c.args.second c.requires.begins c.requires.two

use Rattle.utf16_str.proofs.iters.WStrChars.as_wstr.Goals as goal

pub returns : goal.returns
returns g c = c.self.view_is

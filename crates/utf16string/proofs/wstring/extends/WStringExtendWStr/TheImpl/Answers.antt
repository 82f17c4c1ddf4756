use Rattle.utf16string.proofs.wstring.extends.WStringExtendWStr.TheImpl.Goals as goal

pub extend-asks : goal.extend-asks
extend-asks g c it gives = ((c.requires it gives).0, (c.requires it gives).1)

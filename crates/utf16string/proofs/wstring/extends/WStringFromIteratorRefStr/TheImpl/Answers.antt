use Rattle.std.proofs.lemmas.Result.{IfOk-weaker}
use Rattle.utf16string.proofs.wstring.extends.WStringFromIteratorRefStr.TheImpl.Goals as goal

pub from_iter-asks : goal.from_iter-asks
from_iter-asks g c it gives = ((c.requires it gives).0, (c.requires it gives).1)

pub from_iter-tells : goal.from_iter-tells
from_iter-tells g c = record {
  ran = IfOk-weaker c.result _ _ (λ s r. (r.0, r.1, r.2, (r.3.1.0, r.3.1.1, λ _. (r.3.0, r.3.1.2)), r.4)) c.ensures.ran;
}

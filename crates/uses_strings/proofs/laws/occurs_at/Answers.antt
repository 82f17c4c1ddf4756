use Rattle.std.proofs.Common.{◌≡◌, ◌↔◌, IsTrue, length, take, subst}
use Rattle.std.proofs.lemmas.List.{take_rest}
use Rattle.uses_strings.proofs.Tests.{starts_stands}
use Rattle.uses_strings.proofs.laws.occurs_at.Goals as goal

pub returns : goal.returns
returns c =
    subst (λ t. IsTrue c.starts_with.result ↔ (take (length c.args.part.now) t ≡ c.args.part.now)) (take_rest c.args.bytes.now c.args.at)
    (starts_stands _ c.args.part.now c.starts_with.result c.starts_with.ensures.value)

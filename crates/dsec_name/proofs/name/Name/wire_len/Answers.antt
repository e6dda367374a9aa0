use Rattle.std.proofs.Common.{ap, length, ℕ, List, arith}
use Rattle.dsec_name.proofs.NameParts.{length-octets}
use Rattle.dsec_name.proofs.name.Name.wire_len.Goals as goal

pub returns-clause-value : goal.returns-clause-value
returns-clause-value c =
    let same = ap (λ (xs : List ℕ). length xs) c.octets.ensures.octets in
    omega (arith, length-octets c.args.self.now)

pub returns-clause-at_most : goal.returns-clause-at_most
returns-clause-at_most c =
    let same = ap (λ (xs : List ℕ). length xs) c.octets.ensures.octets in
    omega (arith, length-octets c.args.self.now, c.octets.ensures.name.at_most)

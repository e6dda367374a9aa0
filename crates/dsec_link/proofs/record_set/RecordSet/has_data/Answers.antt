use Rattle.std.proofs.Common.{ℕ, List, refl, sym, subst, ◌∙◌, arith}
use Rattle.std.specs.Prelude.{Contains}
use Rattle.std.proofs.lemmas.Bool.{false≢true}
use Rattle.std.proofs.lemmas.Slice.Eq.{bytes_eq-Decides}
use Rattle.dsec_link.proofs.SetLemmas.{has_octets, has_no_octets}
use Rattle.dsec_link.proofs.record_set.RecordSet.has_data.Goals as goal

pub returns-then-eq : goal.returns-then-eq
returns-then-eq c =
    let same = (bytes_eq-Decides c.octets.result.now c.args.octets.now).0 (sym c.eq.ensures ∙ c.if-eq.true) in
    let there = has_octets c.datas-datas.result.now c.loop-one.one-index c.one-item.result c.args.octets.now c.loop-one-test.true c.one-item.is (sym c.octets.ensures.value ∙ same) in
    (λ _. subst (λ (xs : List (List ℕ)). Contains xs c.args.octets.now) c.datas-datas.ensures.values there, λ _. refl)

pub returns : goal.returns
returns c = (
  λ e. absurd (false≢true e),
  λ has. absurd
      (has_no_octets c.datas-datas.result.now c.args.octets.now (λ k d below. c.loop-one.invariant k d (omega (arith, below, c.loop-one-test.false)))
      (subst (λ (xs : List (List ℕ)). Contains xs c.args.octets.now) (sym c.datas-datas.ensures.values) has)),
)

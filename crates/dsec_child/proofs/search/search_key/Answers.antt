use Rattle.std.proofs.Common.{◌≡◌, ◌∙◌, ℕ, suc, ◌+◌, ◌-◌, map, sym, ap, subst, arith, nat_lt}
use Rattle.std.proofs.lemmas.Bool.{ltb-true, ltb-false}
use Rattle.dsec_spec.specs.DelegationSigner.{names, speaks_of}
use Rattle.dsec_spec.specs.KeySearch.{of_key}
use Rattle.dsec_spec.specs.Records.{Record}
use Rattle.dsec_wire.specs.DataViews.{ds_view}
use Rattle.dsec_wire.specs.Views.{key_view}
use Rattle.dsec_link.proofs.KeySearchSteps.{from_index, key_past, key_tried, key_found, key_over}
use Rattle.dsec_child.specs.Searches.{digests_by, digests_for}
use Rattle.dsec_link.proofs.KeySearchSteps.{from_match, from_mismatch, from_other, from_excess}
use Rattle.dsec_child.proofs.SearchSteps.{at_most_one, digests_past, digests_good, digests_bad, digests_over, digests_from, tags_there}
use Rattle.dsec_child.proofs.search.search_key.Goals as goal
use Rattle.dsec_child.proofs.search.search_key.Goals.{in-Mismatch, in-Other}

pub tag_of-tag-requires : goal.tag_of-tag-requires
tag_of-tag-requires g c = tags_there c.args.tags c.args.keys.now c.loop-index.index c.index-keys-index.result (key_view c.said_by-key.result) c.requires.tags c.loop-index-test.true c.index-keys-index.is c.said_by-key.ensures

pub returns-in-Match-clause-found : goal.returns-in-Match-clause-found
returns-in-Match-clause-found g c =
    let d = ds_view c.args.ds.now in
    let owner = c.args.owner.now in
    let left = c.loop-index.left in
    let key = key_view c.said_by-key.result in
    let says = sym c.said_by-key.ensures in
    let h = from_match (names d key) (speaks_of d owner key) (nat_lt 0 left) (sym c.try_key.ensures.found ∙ c.in-Match.is) in
    sym (key_found d owner left c.args.keys.now c.loop-index.index c.index-keys-index.result c.loop-index-test.true c.index-keys-index.is
    (ltb-true 0 left h.2) (ap (of_key (names d)) says ∙ h.0) (ap (of_key (speaks_of d owner)) says ∙ h.1))
    ∙ c.loop-index.invariant.0

pub returns-in-Match-clause-counted : goal.returns-in-Match-clause-counted
returns-in-Match-clause-counted g c =
    let d = ds_view c.args.ds.now in
    let owner = c.args.owner.now in
    let left = c.loop-index.left in
    let key = key_view c.said_by-key.result in
    let says = sym c.said_by-key.ensures in
    let h = from_match (names d key) (speaks_of d owner key) (nat_lt 0 left) (sym c.try_key.ensures.found ∙ c.in-Match.is) in
    let one = digests_good d owner left c.args.keys.now c.loop-index.index c.index-keys-index.result c.loop-index-test.true c.index-keys-index.is
    (ltb-true 0 left h.2) (ap (of_key (names d)) says ∙ h.0) (ap (of_key (speaks_of d owner)) says ∙ h.1) in
    let made = c.try_key.ensures.counted ∙ ap (λ y. c.loop-index.steps + digests_by d y) c.in-Match.is in
    made ∙ (ap (λ n. c.loop-index.steps + n) (sym one) ∙ c.loop-index.invariant.1)

pub returns-in-Match-clause-bound : goal.returns-in-Match-clause-bound
returns-in-Match-clause-bound g c =
    let d = ds_view c.args.ds.now in
    let owner = c.args.owner.now in
    let left = c.loop-index.left in
    let key = key_view c.said_by-key.result in
    let h = from_match (names d key) (speaks_of d owner key) (nat_lt 0 left) (sym c.try_key.ensures.found ∙ c.in-Match.is) in
    let some = ltb-true 0 left h.2 in
    let made = c.try_key.ensures.counted ∙ ap (λ y. c.loop-index.steps + digests_by d y) c.in-Match.is in
    let few = at_most_one d owner in
    omega (arith, made, few, some, c.loop-index.invariant.2)

pub returns-in-Excess-clause-found : goal.returns-in-Excess-clause-found
returns-in-Excess-clause-found g c =
    let d = ds_view c.args.ds.now in
    let owner = c.args.owner.now in
    let left = c.loop-index.left in
    let key = key_view c.said_by-key.result in
    let says = sym c.said_by-key.ensures in
    let h = from_excess (names d key) (speaks_of d owner key) (nat_lt 0 left) (sym c.try_key.ensures.found ∙ c.in-Excess.is) in
    let spent = ltb-false 0 left h.1 in
    sym (key_over d owner left c.args.keys.now c.loop-index.index c.index-keys-index.result c.loop-index-test.true c.index-keys-index.is
    (omega (arith, spent)) (ap (of_key (names d)) says ∙ h.0))
    ∙ c.loop-index.invariant.0

pub returns-in-Excess-clause-counted : goal.returns-in-Excess-clause-counted
returns-in-Excess-clause-counted g c =
    let d = ds_view c.args.ds.now in
    let owner = c.args.owner.now in
    let left = c.loop-index.left in
    let key = key_view c.said_by-key.result in
    let h = from_excess (names d key) (speaks_of d owner key) (nat_lt 0 left) (sym c.try_key.ensures.found ∙ c.in-Excess.is) in
    let spent = ltb-false 0 left h.1 in
    let none = digests_over d owner left c.args.keys.now c.loop-index.index (omega (arith, spent)) in
    let made = c.try_key.ensures.counted ∙ ap (λ y. c.loop-index.steps + digests_by d y) c.in-Excess.is in
    made ∙ (ap (λ n. c.loop-index.steps + n) (sym none) ∙ c.loop-index.invariant.1)

pub returns-in-Excess-clause-bound : goal.returns-in-Excess-clause-bound
returns-in-Excess-clause-bound g c =
    let d = ds_view c.args.ds.now in
    let made = c.try_key.ensures.counted ∙ ap (λ y. c.loop-index.steps + digests_by d y) c.in-Excess.is in
    omega (arith, made, c.loop-index.invariant.2)

pub loop-index-preserved : goal.loop-index-preserved
loop-index-preserved g c =
    let d = ds_view c.args.ds.now in
    let owner = c.args.owner.now in
    let left = c.loop-index.left in
    let index = c.loop-index.index in
    let keys = c.args.keys.now in
    let key = key_view c.said_by-key.result in
    let says = sym c.said_by-key.ensures in
    let next : index + 1 ≡ suc index = omega arith in
    elim c.match-try_key.branch [
      | in-Mismatch w ↦
          let h = from_mismatch (names d key) (speaks_of d owner key) (nat_lt 0 left) (sym c.try_key.ensures.found ∙ w.in-Mismatch.is) in
          let some = ltb-true 0 left h.2 in
          let made = c.try_key.ensures.counted ∙ ap (λ y. c.loop-index.steps + digests_by d y) w.in-Mismatch.is in
          let few = at_most_one d owner in
          let rest = digests_bad d owner left keys index c.index-keys-index.result c.loop-index-test.true c.index-keys-index.is
          some (ap (of_key (names d)) says ∙ h.0) (ap (of_key (speaks_of d owner)) says ∙ h.1) in
          let fewer = w.left-is in (
            ap (λ (n : ℕ). from_index d owner n keys (index + 1)) w.left-is
                ∙ (ap (λ (j : ℕ). from_index d owner (left - 1) keys j) next
                ∙ (sym (key_tried d owner left keys index c.index-keys-index.result c.loop-index-test.true c.index-keys-index.is
                some (ap (of_key (names d)) says ∙ h.0) (ap (of_key (speaks_of d owner)) says ∙ h.1))
                ∙ c.loop-index.invariant.0)),
            subst (λ (n : ℕ). c.try_key.new.steps + digests_from d owner n keys (index + 1) ≡ c.args.steps.now + digests_for d owner c.args.most (map (λ (r : Record). r.rdata) keys)) (sym w.left-is) (omega (arith, made, rest, c.loop-index.invariant.1)),
            omega (arith, made, few, some, fewer, c.loop-index.invariant.2),
          )
      | in-Other w ↦
          let h = from_other (names d key) (speaks_of d owner key) (nat_lt 0 left) (sym c.try_key.ensures.found ∙ w.in-Other.is) in
          let made = c.try_key.ensures.counted ∙ ap (λ y. c.loop-index.steps + digests_by d y) w.in-Other.is in
          let rest = digests_past d owner left keys index c.index-keys-index.result c.loop-index-test.true c.index-keys-index.is (ap (of_key (names d)) says ∙ h) in
          let stays = w.left-is in (
            ap (λ (n : ℕ). from_index d owner n keys (index + 1)) w.left-is
                ∙ (ap (λ (j : ℕ). from_index d owner left keys j) next
                ∙ (sym (key_past d owner left keys index c.index-keys-index.result c.loop-index-test.true c.index-keys-index.is (ap (of_key (names d)) says ∙ h))
                ∙ c.loop-index.invariant.0)),
            subst (λ (n : ℕ). c.try_key.new.steps + digests_from d owner n keys (index + 1) ≡ c.args.steps.now + digests_for d owner c.args.most (map (λ (r : Record). r.rdata) keys)) (sym w.left-is) (omega (arith, made, rest, c.loop-index.invariant.1)),
            omega (arith, made, stays, c.loop-index.invariant.2),
          )
    ]

use Rattle.std.proofs.Common.{◌≡◌, ◌∙◌, ℕ, suc, ◌+◌, ◌-◌, sym, ap, arith, nat_lt}
use Rattle.std.proofs.lemmas.Bool.{ltb-true, ltb-false}
use Rattle.dsec_spec.specs.KeySearch.{is_named, is_spoken_of}
use Rattle.dsec_wire.specs.DataViews.{ds_view}
use Rattle.dsec_wire.specs.TypedData.{TypedData}
use Rattle.dsec_link.proofs.KeySearchSteps.{from_index, from_match, from_mismatch, from_other, from_excess, key_past, key_tried, key_found, key_over}
use Rattle.dsec_link.proofs.key_search.first_key_for.Goals as goal
use Rattle.dsec_link.proofs.key_search.first_key_for.Goals.{in-Mismatch, in-Other}

pub returns-in-Match : goal.returns-in-Match
returns-in-Match c =
    let d = ds_view c.args.ds.now in
    let owner = c.args.owner.now in
    let left = c.loop-index.left in
    let x = c.rdata.result.now.octets in
    let same = sym (ap (λ (one : TypedData). one.octets) c.rdata.ensures.value) in
    let h = from_match (is_named d x) (is_spoken_of d owner x) (nat_lt 0 left) (sym c.try_key.ensures ∙ c.in-Match.is) in
    sym (key_found d owner left c.args.keys.now c.loop-index.index c.index-keys-index.result c.loop-index-test.true c.index-keys-index.is
    (ltb-true 0 left h.2) (ap (is_named d) same ∙ h.0) (ap (is_spoken_of d owner) same ∙ h.1))
    ∙ c.loop-index.invariant

pub returns-in-Excess : goal.returns-in-Excess
returns-in-Excess c =
    let d = ds_view c.args.ds.now in
    let owner = c.args.owner.now in
    let left = c.loop-index.left in
    let x = c.rdata.result.now.octets in
    let same = sym (ap (λ (one : TypedData). one.octets) c.rdata.ensures.value) in
    let h = from_excess (is_named d x) (is_spoken_of d owner x) (nat_lt 0 left) (sym c.try_key.ensures ∙ c.in-Excess.is) in
    let spent = ltb-false 0 left h.1 in
    sym (key_over d owner left c.args.keys.now c.loop-index.index c.index-keys-index.result c.loop-index-test.true c.index-keys-index.is
    (omega (arith, spent)) (ap (is_named d) same ∙ h.0))
    ∙ c.loop-index.invariant

pub loop-index-preserved : goal.loop-index-preserved
loop-index-preserved c =
    let d = ds_view c.args.ds.now in
    let owner = c.args.owner.now in
    let left = c.loop-index.left in
    let index = c.loop-index.index in
    let keys = c.args.keys.now in
    let x = c.rdata.result.now.octets in
    let same = sym (ap (λ (one : TypedData). one.octets) c.rdata.ensures.value) in
    let next : index + 1 ≡ suc index = omega arith in
    elim c.match-try_key.branch [
      | in-Mismatch w ↦
          let h = from_mismatch (is_named d x) (is_spoken_of d owner x) (nat_lt 0 left) (sym c.try_key.ensures ∙ w.in-Mismatch.is) in
          ap (λ (n : ℕ). from_index d owner n keys (index + 1)) w.left-is
          ∙ (ap (λ (j : ℕ). from_index d owner (left - 1) keys j) next
          ∙ (sym (key_tried d owner left keys index c.index-keys-index.result c.loop-index-test.true c.index-keys-index.is
          (ltb-true 0 left h.2) (ap (is_named d) same ∙ h.0) (ap (is_spoken_of d owner) same ∙ h.1))
          ∙ c.loop-index.invariant))
      | in-Other w ↦
          let h = from_other (is_named d x) (is_spoken_of d owner x) (nat_lt 0 left) (sym c.try_key.ensures ∙ w.in-Other.is) in
          ap (λ (n : ℕ). from_index d owner n keys (index + 1)) w.left-is
          ∙ (ap (λ (j : ℕ). from_index d owner left keys j) next
          ∙ (sym (key_past d owner left keys index c.index-keys-index.result c.loop-index-test.true c.index-keys-index.is (ap (is_named d) same ∙ h))
          ∙ c.loop-index.invariant))
    ]

-- What the tests of a node that is held decide.
use Rattle.std.proofs.Common.{◌≡◌, ◌&&◌, ◌==◌, ◌↔◌, ℕ, ◌+◌, ◌<◌, ◌≤◌, ◌⊎◌, Bool, false, List, Some, None, sym, ap, ◌∙◌, inl, inr, arith}
use Rattle.std.specs.Prelude.{IsTrue}
use Rattle.std.specs.Bool.{Decides}
use Rattle.std.proofs.lemmas.Bool.{and_parts, eqb-true, eq-eqb, false≢true}
use Rattle.dsec_spec.specs.Names.{Place}
use Rattle.dsec_spec.specs.Records.{Record}
use Rattle.dsec_nodes.specs.World.{Bounds}
use Rattle.dsec_nodes.specs.Nodes.{Node}
use Rattle.dsec_nodes.specs.Taking.{RestsAt, rests_at}
use Rattle.dsec_nodes.proofs.TakingLaws.{rests_decides}

-- a node's anchor is one of these, at the place, where it has one
pub has_anchor : (r : Bool) (anchors : List Record) (top : Place) (n : Node) (anchor : Record) → Some anchor ≡ n.anchor → r ≡ rests_at anchors top (Some anchor)
    → IsTrue r ↔ RestsAt anchors top n
has_anchor r anchors top n anchor e s =
    let same : r ≡ rests_at anchors top n.anchor = s ∙ ap (rests_at anchors top) e in
    (λ t. (rests_decides anchors top n).0 (sym same ∙ t), λ h. same ∙ (rests_decides anchors top n).1 h)

-- and isn't, where it has none
pub has_none : (anchors : List Record) (top : Place) (n : Node) → None ≡ n.anchor → IsTrue false ↔ RestsAt anchors top n
has_none anchors top n e = (λ t. absurd (false≢true t), λ h. absurd (let x : None ≡ Some h.anchor = e ∙ h.its in cc))

-- a node that isn't expired was made before, and is kept yet
pub not_yet : (made valid_for now : ℕ) → ((now < made) ⊎ (made + valid_for < now) → ⊥) → (made ≤ now) × (now ≤ made + valid_for)
not_yet made valid_for now lasts = (omega (arith, λ (h : now < made). lasts (inl h)), omega (arith, λ (h : made + valid_for < now). lasts (inr h)))

-- bounds are the same, where they are so field by field
pub bounds_decides : (b c : Bounds)
    → Decides ((b.room == c.room) && ((b.max_validity == c.max_validity) && ((b.max_bogus_validity == c.max_bogus_validity) && ((b.max_ds_records == c.max_ds_records) && ((b.max_keys_for_ds == c.max_keys_for_ds) && ((b.iterations_insecure == c.iterations_insecure) && ((b.iterations_bogus == c.iterations_bogus) && (b.most_hashes == c.most_hashes))))))))
    (b ≡ c)
bounds_decides b c = (
  λ e.
      let p = and_parts _ _ e in
      let q = and_parts _ _ p.1 in
      let r = and_parts _ _ q.1 in
      let s = and_parts _ _ r.1 in
      let t = and_parts _ _ s.1 in
      let u = and_parts _ _ t.1 in
      let v = and_parts _ _ u.1 in
      λ i. record {
        room = eqb-true b.room c.room p.0 i;
        max_validity = eqb-true b.max_validity c.max_validity q.0 i;
        max_bogus_validity = eqb-true b.max_bogus_validity c.max_bogus_validity r.0 i;
        max_ds_records = eqb-true b.max_ds_records c.max_ds_records s.0 i;
        max_keys_for_ds = eqb-true b.max_keys_for_ds c.max_keys_for_ds t.0 i;
        iterations_insecure = eqb-true b.iterations_insecure c.iterations_insecure u.0 i;
        iterations_bogus = eqb-true b.iterations_bogus c.iterations_bogus v.0 i;
        most_hashes = eqb-true b.most_hashes c.most_hashes v.1 i;
      },
  λ e i.
      eq-eqb b.room c.room (ap (λ (x : Bounds). x.room) e) i
      && (eq-eqb b.max_validity c.max_validity (ap (λ (x : Bounds). x.max_validity) e) i
      && (eq-eqb b.max_bogus_validity c.max_bogus_validity (ap (λ (x : Bounds). x.max_bogus_validity) e) i
      && (eq-eqb b.max_ds_records c.max_ds_records (ap (λ (x : Bounds). x.max_ds_records) e) i
      && (eq-eqb b.max_keys_for_ds c.max_keys_for_ds (ap (λ (x : Bounds). x.max_keys_for_ds) e) i
      && (eq-eqb b.iterations_insecure c.iterations_insecure (ap (λ (x : Bounds). x.iterations_insecure) e) i
      && (eq-eqb b.iterations_bogus c.iterations_bogus (ap (λ (x : Bounds). x.iterations_bogus) e) i
      && eq-eqb b.most_hashes c.most_hashes (ap (λ (x : Bounds). x.most_hashes) e) i)))))),
)

-- What a map of nodes by name holds for a place.
use Rattle.std.proofs.Common.{◌≡◌, Bool, true, false, cond, List, [], ◌∷◌, map, Option, Some, refl, sym, ap, ◌∙◌, subst, inl, inr, ◌⊎◌}
use Rattle.std.specs.declared.cmp.Ordering.{Ordering}
use Rattle.std.specs.declared.cmp.Ordering.TheVariants.{Less, Equal, Greater}
use Rattle.std.specs.Option.{option_map}
use Rattle.std.specs.Ordering.{is_eq, match_ordering}
use Rattle.std.specs.Map.{lookup}
use Rattle.std.specs.BTreeMap.{insert_entry, is_at}
use Rattle.std.proofs.lemmas.Bool.{true≢false}
use Rattle.std.proofs.lemmas.Option.{same_Some}
use Rattle.dsec_spec.specs.Names.{Labels, Place, place, same_place, name_cmp}
use Rattle.dsec_name.specs.NameLaws.{name_ties, same_place_decides, place_tied}
use Rattle.dsec_nodes.specs.Nodes.{Node}
use Rattle.dsec_node.specs.Caches.{held_in, with_node, Adds}

module _ {A : Type 0} (value : A → Node) where
  -- names and nodes, seen by the nodes' values
  abbrev pub seen : List (Labels × A) → List (Labels × Node)
  seen entries = map (λ e. (e.0, value e.1)) entries

  -- what is looked up among the entries is what they hold
  pub looked_up : (p : Place) (entries : List (Labels × A)) → held_in (seen entries) p ≡ option_map value (lookup (λ name. same_place p (place name)) entries)
  looked_up p [] = refl
  looked_up p (e ∷ entries) = by (looked_up p entries) (same_place p (place e.0))
    where
      by : held_in (seen entries) p ≡ option_map value (lookup (λ name. same_place p (place name)) entries) → (b : Bool) → cond b (Some (value e.1)) (held_in (seen entries) p) ≡ option_map value (cond b (Some e.1) (lookup (λ name. same_place p (place name)) entries))
      by rest true = refl
      by rest false = rest

  -- and what is looked up by a name's order is what they hold for the name's place
  pub got : (name : Labels) (entries : List (Labels × A)) → held_in (seen entries) (place name) ≡ option_map value (lookup (is_at (name_cmp name)) entries)
  got name entries = looked_up (place name) entries ∙ ap (λ (t : Labels → Bool). option_map value (lookup t entries)) (λ i x. name_ties name x i)

  twice : (b : Bool) (new old : Option Node) (rest : Option Node) → cond b new rest ≡ cond b new (cond b old rest)
  twice true new old rest = refl
  twice false new old rest = refl

  swapped : (b c : Bool) (one other rest : Option Node) → (b ≡ true → c ≡ true → ⊥) → cond b one (cond c other rest) ≡ cond c other (cond b one rest)
  swapped true true one other rest apart = absurd (apart refl refl)
  swapped true false one other rest apart = refl
  swapped false true one other rest apart = refl
  swapped false false one other rest apart = refl

  -- the entries with one more hold its node for its place, and elsewhere what they held
  pub put : (k : Labels) (v : A) (p : Place) (entries : List (Labels × A)) → held_in (seen (insert_entry name_cmp entries k v)) p ≡ with_node (held_in (seen entries)) (place k) (value v) p
  put k v p [] = refl
  put k v p (e ∷ entries) = by (put k v p entries) (name_cmp k e.0) refl
    where
      by : held_in (seen (insert_entry name_cmp entries k v)) p ≡ with_node (held_in (seen entries)) (place k) (value v) p → (o : Ordering) → name_cmp k e.0 ≡ o
          → held_in (seen (match_ordering o ((k, v) ∷ e ∷ entries) ((e.0, v) ∷ entries) (e ∷ insert_entry name_cmp entries k v))) p ≡ with_node (held_in (seen (e ∷ entries))) (place k) (value v) p
      by rest Less h = refl
      by rest Equal h =
          let same : place k ≡ place e.0 = (place_tied (place k) (place e.0)).0 (ap is_eq h) in
          subst (λ (q : Place). cond (same_place p q) (Some (value v)) (held_in (seen entries) p) ≡ cond (same_place p (place k)) (Some (value v)) (cond (same_place p q) (Some (value e.1)) (held_in (seen entries) p)))
          same (twice (same_place p (place k)) (Some (value v)) (Some (value e.1)) (held_in (seen entries) p))
      by rest Greater h =
          ap (cond (same_place p (place e.0)) (Some (value e.1))) rest
          ∙ swapped (same_place p (place e.0)) (same_place p (place k)) (Some (value e.1)) (Some (value v)) (held_in (seen entries) p) (λ b c.
          let same : place k ≡ place e.0 = sym ((same_place_decides p (place k)).0 c) ∙ (same_place_decides p (place e.0)).0 b in
          true≢false (sym ((place_tied (place k) (place e.0)).1 same) ∙ ap is_eq h))

-- where a node was put, nothing else was added
pub adds_put : (old new : List (Labels × Node)) (at : Place) (put_node : Node) → ((p : Place) → held_in new p ≡ with_node (held_in old) at put_node p)
    → Adds (Some (held_in old)) (Some (held_in new)) at put_node
adds_put old new at put_node ok = λ p n e. by p n (same_place p at) refl (sym (ok p) ∙ e)
  where
    by : (p : Place) (n : Node) (b : Bool) → same_place p at ≡ b → cond b (Some put_node) (held_in old p) ≡ Some n → (held_in old p ≡ Some n) ⊎ ((p ≡ at) × (n ≡ put_node))
    by p n true b e = inr ((same_place_decides p at).0 b, sym (same_Some put_node n e))
    by p n false b e = inl e

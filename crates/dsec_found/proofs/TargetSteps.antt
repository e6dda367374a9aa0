-- The signer of a group's first usable signature, found signature by signature; and where the target stands.
use Rattle.std.proofs.Common.{◌≡◌, ℕ, suc, ◌+◌, ◌<◌, ◌≤◌, Bool, true, false, cond, List, [], ◌∷◌, map, length, drop, get_or, Option, Some, None, refl, sym, ap, ◌∙◌, subst, arith}
use Rattle.std.specs.Prelude.{filter_map, find, unwrap_or, IfSome}
use Rattle.std.specs.List.{cons_option}
use Rattle.std.specs.Option.{option_map}
use Rattle.std.proofs.lemmas.List.{drop_all}
use Rattle.dsec_spec.specs.Names.{Labels, Place, place, IsAtOrBelow}
use Rattle.dsec_spec.specs.Records.{Record, Rrsig, rrsig_of}
use Rattle.dsec_spec.specs.Groups.{Group}
use Rattle.dsec_spec.specs.Islands.{is_usable, island, signers, target}
use Rattle.dsec_spec.proofs.IslandLemmas.{island_is, one_looked_for}
use Rattle.dsec_spec.proofs.ListLemmas.{drop_here}
use Rattle.dsec_nodes.specs.Judging.{target_of}
use Rattle.dsec_nodes.proofs.ShownLaws.{target_between}
use Rattle.dsec_found.specs.Letters.{told_looked_for, told_signers, told_among, told_zone}
use Rattle.dsec_found.proofs.IslandSteps.{looked_for_place}

-- the signers that signatures name
abbrev pub named : List Record → List Labels
named signatures = filter_map (λ (s : Record). option_map (λ (r : Rrsig). r.signer) (rrsig_of s.rdata)) signatures

-- whether a signer can be that of a group that is looked for at a place
abbrev pub can_sign : Option Place → Place → Labels → Bool
can_sign top from signer = is_usable top from (place signer)

-- the first usable one of the signatures from an index on
abbrev pub found_from : Option Place → Place → List Record → ℕ → Option Labels
found_from top from signatures index = find (can_sign top from) (named (drop index signatures))

module _ (top : Option Place) (from : Place) (signatures : List Record) (i : ℕ) (s : Record) (below : i < length signatures) (is : s ≡ get_or signatures i s) where
  here : (o : Option Labels) → option_map (λ (r : Rrsig). r.signer) (rrsig_of s.rdata) ≡ o → named (drop i signatures) ≡ cons_option o (named (drop (suc i) signatures))
  here o e = ap named (drop_here signatures i s below is) ∙ ap (λ (p : Option Labels). cons_option p (named (drop (suc i) signatures))) e

  next : suc i ≡ i + 1
  next = omega arith

  pub no_signer : (goal : Option Labels) → option_map (λ (r : Rrsig). r.signer) (rrsig_of s.rdata) ≡ None → goal ≡ found_from top from signatures i → goal ≡ found_from top from signatures (i + 1)
  no_signer goal e so_far = so_far ∙ (ap (find (can_sign top from)) (here None e) ∙ ap (found_from top from signatures) next)

  pub unusable : (goal : Option Labels) (n : Labels) → option_map (λ (r : Rrsig). r.signer) (rrsig_of s.rdata) ≡ Some n → can_sign top from n ≡ false → goal ≡ found_from top from signatures i → goal ≡ found_from top from signatures (i + 1)
  unusable goal n e bad so_far =
      so_far ∙ (ap (find (can_sign top from)) (here (Some n) e)
      ∙ (ap (λ (b : Bool). cond b (Some n) (find (can_sign top from) (named (drop (suc i) signatures)))) bad ∙ ap (found_from top from signatures) next))

  pub usable : (goal : Option Labels) (n : Labels) → option_map (λ (r : Rrsig). r.signer) (rrsig_of s.rdata) ≡ Some n → can_sign top from n ≡ true → goal ≡ found_from top from signatures i → goal ≡ Some n
  usable goal n e fine so_far =
      so_far ∙ (ap (find (can_sign top from)) (here (Some n) e) ∙ ap (λ (b : Bool). cond b (Some n) (find (can_sign top from) (named (drop (suc i) signatures)))) fine)

pub no_more : (goal : Option Labels) (top : Option Place) (from : Place) (signatures : List Record) (i : ℕ) → length signatures ≤ i → goal ≡ found_from top from signatures i → goal ≡ None
no_more goal top from signatures i past so_far = so_far ∙ ap (λ (ss : List Record). find (can_sign top from) (named ss)) (drop_all i signatures past)

-- where the signers stand that signatures name
places_named : (signatures : List Record) → map place (named signatures) ≡ filter_map (λ (s : Record). option_map (λ (r : Rrsig). place r.signer) (rrsig_of s.rdata)) signatures
places_named [] = refl
places_named (s ∷ ss) = by (rrsig_of s.rdata) ∙ ap (cons_option (option_map (λ (r : Rrsig). place r.signer) (rrsig_of s.rdata))) (places_named ss)
  where
    by : (o : Option Rrsig) → map place (cons_option (option_map (λ (r : Rrsig). r.signer) o) (named ss)) ≡ cons_option (option_map (λ (r : Rrsig). place r.signer) o) (map place (named ss))
    by None = refl
    by (Some r) = refl

-- the first that passes by its place is at the first place that passes
place_found : (test : Place → Bool) (names : List Labels) → option_map place (find (λ (n : Labels). test (place n)) names) ≡ find test (map place names)
place_found test [] = refl
place_found test (n ∷ ns) = by (test (place n)) ∙ ap (cond (test (place n)) (Some (place n))) (place_found test ns)
  where
    by : (b : Bool) → option_map place (cond b (Some n) (find (λ (m : Labels). test (place m)) ns)) ≡ cond b (Some (place n)) (option_map place (find (λ (m : Labels). test (place m)) ns))
    by true = refl
    by false = refl

place_chosen : (o : Option Labels) (name : Labels) → place (unwrap_or o name) ≡ unwrap_or (option_map place o) (place name)
place_chosen None name = refl
place_chosen (Some n) name = refl

-- the zone that is to have signed a group stands where the definition has it, whatever its letters
pub told_zone_place : (group : Group) (top : Option Place) → place (told_zone group top) ≡ target_of group top
told_zone_place group top =
    let name = told_looked_for group.owner group.rtype in
    place_chosen (find (can_sign top (place name)) (told_signers group)) name
    ∙ (ap (λ (o : Option Place). unwrap_or o (place name)) (place_found (is_usable top (place name)) (told_signers group) ∙ ap (find (is_usable top (place name))) (places_named group.signatures))
    ∙ ap (λ (from : Place). target top from (signers group)) (looked_for_place group.owner group.rtype))

-- the zone that is to have signed a group is at or below its island
pub target_below : (anchors : List Record) (group : Group) (top : Place) → island anchors (place group.owner) group.rtype ≡ Some top → IsAtOrBelow (target_of group (Some top)) top
target_below anchors group top e =
    let i = island_is anchors (place group.owner) group.rtype top e in
    (target_between group top i.from (one_looked_for (place group.owner) group.rtype i.from i.looked_for) i.above).0

-- the zone that is to have signed a group, by the island and by the name where it is looked for
pub told_zone_is : (anchors : List Record) (group : Group) (top : Option Place) (from zone : Labels) (name other : Labels) (rtype other_type : ℕ)
    → zone ≡ told_among top from (told_signers group) → top ≡ island anchors (place name) rtype → from ≡ told_looked_for other other_type
    → name ≡ group.owner → rtype ≡ group.rtype → other ≡ group.owner → other_type ≡ group.rtype
    → zone ≡ told_zone group (island anchors (place group.owner) group.rtype)
told_zone_is anchors group top from zone name other rtype other_type e top_is from_is a b c d =
    e ∙ (ap (λ (t : Option Place). told_among t from (told_signers group)) (top_is ∙ (ap (λ (n : Labels). island anchors (place n) rtype) a ∙ ap (island anchors (place group.owner)) b))
    ∙ ap (λ (f : Labels). told_among (island anchors (place group.owner) group.rtype) f (told_signers group))
    (from_is ∙ (ap (λ (n : Labels). told_looked_for n other_type) c ∙ ap (told_looked_for group.owner) d)))

-- and it is at or below the island, where there is one
pub below_top : (anchors : List Record) (group : Group) (top : Option Labels) (zone : Place) → option_map (λ (t : Labels). place t) top ≡ island anchors (place group.owner) group.rtype
    → zone ≡ target_of group (island anchors (place group.owner) group.rtype) → IfSome top (λ t. IsAtOrBelow zone (place t))
below_top anchors group None zone e zone_is = tt
below_top anchors group (Some top) zone e zone_is =
    subst (λ (z : Place). IsAtOrBelow z (place top)) (sym (zone_is ∙ ap (target_of group) (sym e))) (target_below anchors group (place top) (sym e))

-- Groups whose TTLs are cut: what stays, and that nothing is left to be cut.
use Rattle.std.proofs.Common.{◌≡◌, ℕ, ◌<◌, ◌≤◌, ◌+◌, Bool, true, false, List, [], ◌∷◌, ◌++◌, map, length, Option, Some, None, refl, sym, ap, ◌∙◌, arith, lt-ltb, le-ltb}
use Rattle.std.specs.Prelude.{◌||◌, min, max, nat_lt, if◌then◌else◌, Ok}
use Rattle.std.specs.List.{list_any, flat_map}
use Rattle.std.proofs.lemmas.List.{map-append}
use Rattle.std.proofs.lemmas.Option.{same_Some}
use Rattle.dsec_spec.specs.Groups.{Group, set_in}
use Rattle.dsec_spec.specs.Lasting.{greatest_ttl, greatest_ttl_in, adjusted_ttl, ttl_by, ttl_for_sig, seconds_left}
use Rattle.dsec_spec.specs.Records.{Record, Rrsig, rrsig_of}
use Rattle.dsec_spec.specs.Messages.{header_of, questions_of, additionals_of}
use Rattle.dsec_builder.specs.Building.{IsMessageOf}
use Rattle.dsec_rewrite.specs.Cutting.{Bounded, cut, cut_group, members, section_of, is_changed, is_due, as_left}
use Rattle.dsec_rewrite.specs.Rewriting.{kept_of, made_of, rewritten, left_by, IsRewriting}

-- cutting TTLs changes no data
same_datas : (bound : Option ℕ) (rs : List Record) → map (λ (r : Record). r.rdata) (map (cut bound) rs) ≡ map (λ (r : Record). r.rdata) rs
same_datas bound [] = refl
same_datas bound (r ∷ rs) = ap (λ (xs : List (List ℕ)). r.rdata ∷ xs) (same_datas bound rs)

-- the set of a group is the same
pub same_set : (b : Bounded) → set_in (cut_group b) ≡ set_in b.group
same_set b = ap (λ datas. record { owner = b.group.owner; class = b.group.class; rtype = b.group.rtype; datas = datas }) (same_datas b.bound b.group.records)

-- no TTL passes the bound
no_greater : (bound : ℕ) (rs : List Record) → greatest_ttl (map (cut (Some bound)) rs) ≤ bound
unfolding greatest_ttl
no_greater bound [] = omega arith
no_greater bound (r ∷ rs) = omega (arith, no_greater bound rs)

none_passes : (bound : ℕ) (g : Group) → greatest_ttl_in (cut_group (record { group = g; bound = Some bound })) ≤ bound
none_passes bound g = omega (arith, no_greater bound g.records, no_greater bound g.signatures, no_greater bound g.extra)

-- the bound is that of the signature, which says the same with its TTL cut to it
bound_is : (g : Group) (seconds bound : ℕ) → adjusted_ttl g seconds ≡ Some bound → seconds ≡ bound
bound_is g seconds bound e = go (nat_lt seconds (greatest_ttl_in g)) e where
  go : (b : Bool) → (if b then Some seconds else None) ≡ Some bound → seconds ≡ bound
  go true e = same_Some seconds bound e
  go false e = absurd cc

same_again : (ttl t : ℕ) (read : Option Rrsig) → ttl_by (min ttl (ttl_by ttl t read)) t read ≡ ttl_by ttl t read
same_again ttl t None = refl
same_again ttl t (Some sig) = least ttl (min sig.original_ttl (seconds_left sig t)) where
  least : (a b : ℕ) → min (min a (min a b)) b ≡ min a b
  least a b = omega arith

pub nothing_left : (g : Group) (signature : Record) (t bound : ℕ) → adjusted_ttl g (ttl_for_sig signature t) ≡ Some bound
    → adjusted_ttl (cut_group (record { group = g; bound = Some bound })) (ttl_for_sig (cut (Some bound) signature) t) ≡ None
nothing_left g signature t bound e =
    let is = bound_is g (ttl_for_sig signature t) bound e in
    let again : ttl_for_sig (cut (Some bound) signature) t ≡ bound =
    ap (λ (n : ℕ). ttl_by (min signature.ttl n) t (rrsig_of signature.rdata)) (sym is) ∙ (same_again signature.ttl t (rrsig_of signature.rdata) ∙ is) in
    rw (again, le-ltb bound (greatest_ttl_in (cut_group (record { group = g; bound = Some bound }))) (none_passes bound g)) refl

-- what is left has nothing more to cut
uncut : (rs : List Record) → map (cut None) rs ≡ rs
uncut [] = refl
uncut (r ∷ rs) = ap (λ (xs : List Record). r ∷ xs) (uncut rs)

same_members : (b : Bounded) → members (cut_group (as_left b)) ≡ members (cut_group b)
same_members b = rw (uncut (map (cut b.bound) b.group.records), uncut (map (cut b.bound) b.group.signatures), uncut (map (cut b.bound) b.group.extra)) refl

same_section : (bs : List Bounded) → section_of (map as_left bs) ≡ section_of bs
same_section [] = refl
same_section (b ∷ bs) = ap (λ (xs : List Record). xs ++ section_of (map as_left bs)) (same_members b) ∙ ap (λ (xs : List Record). members (cut_group b) ++ xs) (same_section bs)

unchanged : (bs : List Bounded) → list_any is_changed (map as_left bs) ≡ false
unchanged [] = refl
unchanged (b ∷ bs) = unchanged bs

-- a message that was rewritten is left as it is
pub second_is_none : (answers authorities : List Bounded) (made : List ℕ) → left_by made (map as_left answers) (map as_left authorities) ≡ Ok made
second_is_none answers authorities made = rw (unchanged answers, unchanged authorities) refl

-- whether one of many is changed, each seen by a view
pub any_viewed : {G : Type 0} (p : Bounded → Bool) (view : G → Bounded) (gs : List G) → list_any p (map view gs) ≡ list_any (λ g. p (view g)) gs
any_viewed p view [] = refl
any_viewed p view (g ∷ gs) = ap (λ (b : Bool). p (view g) || b) (any_viewed p view gs)

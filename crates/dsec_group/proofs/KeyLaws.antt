-- Groups by their keys: a record's group is the one that has its key.
use Rattle.std.proofs.Common.{◌≡◌, ◌==◌, Bool, true, false, ◌&&◌, cond, List, [], ◌∷◌, ◌++◌, Some, refl, sym, ap}
use Rattle.std.specs.Bool.{Decides}
use Rattle.std.specs.Str.{bytes_eq}
use Rattle.std.proofs.lemmas.Bool.{and_parts, eqb-true, eq-eqb, false≢true}
use Rattle.std.proofs.lemmas.Bool.Decides.{same_from_decides}
use Rattle.std.proofs.lemmas.Slice.Eq.{bytes_eq-Decides}
use Rattle.dsec_spec.specs.Names.{place, canonical_octets}
use Rattle.dsec_spec.specs.Records.{Record}
use Rattle.dsec_spec.specs.Groups.{Group, is_signature, of_one_group, grouped_type}
use Rattle.dsec_spec.proofs.CanonicalNames.{canonical_octets_equal, same_place_decides}
use Rattle.dsec_group.specs.Adding.{belongs_to, canonical_of, group_from, group_with, has_data, led, new_group, put_in, with_record}
use Rattle.dsec_group.specs.Keys.{GroupKey, group_key, is_key, key_among, key_of, same_key}
use Rattle.dsec_group.proofs.MemberLaws.{one_group}

pub key_decides : (a b : GroupKey) → Decides (same_key a b) (a ≡ b)
key_decides a b = (there, back) where
  there : same_key a b ≡ true → a ≡ b
  there h =
      let p = and_parts (bytes_eq a.owner b.owner) ((a.class == b.class) && (a.rtype == b.rtype)) h in
      let q = and_parts (a.class == b.class) (a.rtype == b.rtype) p.1 in
      let owners : a.owner ≡ b.owner = (bytes_eq-Decides a.owner b.owner).0 p.0 in
      let classes : a.class ≡ b.class = eqb-true _ _ q.0 in
      let rtypes : a.rtype ≡ b.rtype = eqb-true _ _ q.1 in
      λ i. record { owner = owners i; class = classes i; rtype = rtypes i }

  back : a ≡ b → same_key a b ≡ true
  back e = rw ((bytes_eq-Decides a.owner b.owner).1 (ap (λ k. k.owner) e), eq-eqb a.class b.class (ap (λ k. k.class) e), eq-eqb a.rtype b.rtype (ap (λ k. k.rtype) e)) refl

-- two records are of one group where their keys are the same
group_decides : (r f : Record) → Decides (of_one_group f r) (key_of r ≡ key_of f)
group_decides r f = (there, back) where
  there : of_one_group f r ≡ true → key_of r ≡ key_of f
  there h =
      let one = one_group f r h in
      let owners : canonical_octets r.owner ≡ canonical_octets f.owner = (canonical_octets_equal r.owner f.owner).1 (sym one.owner) in
      let classes : r.class ≡ f.class = sym one.class in
      let rtypes : grouped_type r ≡ grouped_type f = sym one.grouped in
      λ i. record { owner = owners i; class = classes i; rtype = rtypes i }

  back : key_of r ≡ key_of f → of_one_group f r ≡ true
  back e =
      let owners : place f.owner ≡ place r.owner = sym ((canonical_octets_equal r.owner f.owner).0 (ap (λ k. k.owner) e)) in
      rw (
        (same_place_decides (place f.owner) (place r.owner)).1 owners,
        eq-eqb f.class r.class (sym (ap (λ k. k.class) e)),
        eq-eqb (grouped_type f) (grouped_type r) (sym (ap (λ k. k.rtype) e)),
      ) refl

one_key : (r f : Record) → same_key (key_of r) (key_of f) ≡ of_one_group f r
one_key r f = same_from_decides _ _ (key_decides (key_of r) (key_of f)) (group_decides r f)

-- a record belongs to the groups that have its key
led_is_key : (r : Record) (ps ss : List Record) → is_key (key_of r) (key_among ps ss) ≡ led r ps ss
led_is_key r (p ∷ ps) ss = one_key r p
led_is_key r [] (s ∷ ss) = one_key r s
led_is_key r [] [] = refl

pub belongs_is_key : (r : Record) (g : Group) → is_key (key_of r) (group_key g) ≡ belongs_to r g
belongs_is_key r g = led_is_key r g.records g.signatures

-- a record of the group leaves its key
front_stays : (d : Bool) (r s : Record) (ss : List Record) → key_among [] (cond d (s ∷ ss) (s ∷ (ss ++ r ∷ []))) ≡ Some (key_of s)
front_stays true r s ss = refl
front_stays false r s ss = refl

front_record : (d : Bool) (r p : Record) (ps ss : List Record) → key_among (cond d (p ∷ ps) (p ∷ (ps ++ r ∷ []))) ss ≡ Some (key_of p)
front_record true r p ps ss = refl
front_record false r p ps ss = refl

put_key : (r : Record) (ps ss : List Record) (had : Bool) (b : Bool) → led r ps ss ≡ true
    → group_key (cond b (group_from ps (with_record r ss) had) (group_from (with_record r ps) ss had)) ≡ key_among ps ss
put_key r (p ∷ ps) ss had true h = refl
put_key r [] (s ∷ ss) had true h = front_stays (has_data (canonical_of r) (s ∷ ss)) r s ss
put_key r (p ∷ ps) ss had false h = front_record (has_data (canonical_of r) (p ∷ ps)) r p ps ss
put_key r [] (s ∷ ss) had false h = ap Some ((group_decides r s).0 h)
put_key r [] [] had b h = absurd (false≢true h)

put_key_either : (r : Record) (g : Group) (b : Bool) (had also : Bool) → led r g.records g.signatures ≡ true
    → group_key (cond b (group_with g.records (with_record r g.signatures) g.extra had) (group_with (with_record r g.records) g.signatures g.extra also)) ≡ group_key g
put_key_either r g true had also h = put_key r g.records g.signatures had true h
put_key_either r g false had also h = put_key r g.records g.signatures also false h

pub group_key_stays : (r : Record) (g : Group) → belongs_to r g ≡ true → group_key (put_in r g) ≡ group_key g
group_key_stays r g h = put_key_either r g (is_signature r) _ _ h

pub new_group_key : (r : Record) → group_key (new_group r) ≡ Some (key_of r)
new_group_key r = go (is_signature r) where
  go : (b : Bool) → group_key (cond b (group_from [] (r ∷ []) false) (group_from (r ∷ []) [] false)) ≡ Some (key_of r)
  go true = refl
  go false = refl

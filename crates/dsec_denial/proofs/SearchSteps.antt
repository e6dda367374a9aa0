-- The search of groups, step by step.
use Rattle.std.proofs.Common.{◌≡◌, ℕ, zero, suc, get_or, ◌+◌, ◌*◌, ◌==◌, ◌<◌, ◌≤◌, arith, mul-le-mul_right, Bool, true, false, cond, List, [], ◌∷◌, length, drop, Option, Some, None, refl, sym, ap, ◌∙◌}
use Rattle.std.specs.Prelude.{filter, slice_get, Ok}
use Rattle.std.specs.Option.{option_or}
use Rattle.std.proofs.lemmas.Bool.{eq-eqb, eqb-true}
use Rattle.std.proofs.lemmas.List.{drop_all}
use Rattle.std.proofs.lemmas.Option.{same_Some}
use Rattle.dsec_spec.specs.Names.{Place}
use Rattle.dsec_spec.specs.Accepts.{Accepts}
use Rattle.dsec_spec.specs.Numbers.{NSEC, NSEC3}
use Rattle.dsec_spec.specs.Records.{Record, Key}
use Rattle.dsec_spec.specs.Groups.{Group}
use Rattle.dsec_spec.specs.Trying.{Tried, good, nothing, all_bad, too_many_bad, checked}
use Rattle.dsec_cause.specs.declared.cause.Cause.{Cause}
use Rattle.dsec_group.specs.declared.check.KeyCheck.{KeyCheck}
use Rattle.dsec_group.specs.Checks.{IsCheck, cause_of}
use Rattle.dsec_nodes.specs.World.{World, moment}
use Rattle.dsec_nodes.specs.Nodes.{Node}
use Rattle.dsec_nodes.specs.Causes.{NoSignature, BadSignature, TooManyBadSignatures}
use Rattle.dsec_node.specs.Views.{ground_view}
use Rattle.dsec_nodes.specs.Signing.{keys_of, under_keys}
use Rattle.dsec_nodes.specs.MissingDs.{Looked, decided, passed, bogus_at, within_by, insecure_by, if_signed, then_looked, looked_among}
use Rattle.dsec_denial.specs.Findings.{AreThere, Finds, GoesBy, IsTried, StandsAt, how_many, then_found}
use Rattle.dsec_denial.specs.Reading.{bears, by_reading, decided_by, placed_at, signed_by}
use Rattle.dsec_denial.specs.declared.decision.Decision.{Decision}
use Rattle.dsec_denial.specs.declared.decision.Decision.TheVariants.{Within, Insecure, Bogus, Passed}
use Rattle.dsec_denial.specs.declared.finding.DsFinding.{DsFinding}
use Rattle.dsec_denial.specs.declared.finding.DsFinding.TheVariants as Finding
use Rattle.dsec_denial.specs.declared.finding.SignedAt.{SignedAt}
use Rattle.dsec_denial.specs.declared.pair.Pair.{Pair}
use Rattle.dsec_denial.specs.declared.reading.Reading.{Reading}
use Rattle.dsec_denial.specs.declared.reading.Reading.TheVariants.{Nothing, At, Above, Around}

-- what was read at an index is what stands there
pub read_there : {A : Type 0} (xs : List A) (i : ℕ) (x y : A) → slice_get xs i ≡ Some y → x ≡ get_or xs i x → x ≡ y
read_there [] zero x y e is = absurd cc
read_there [] (suc i) x y e is = absurd cc
read_there (z ∷ xs) zero x y e is = is ∙ same_Some z y e
read_there (z ∷ xs) (suc i) x y e is = read_there xs i x y e is

-- nothing before leaves what is found
pub from_nothing : (l : Looked) → then_looked (passed None) l ≡ l
from_nothing (decided n) = refl
from_nothing (passed None) = refl
from_nothing (passed (Some cause)) = refl

-- one that shows nothing, in between: its cause is left, or else the one before
through : (last cause : Option Cause) (l : Looked) → then_looked (passed last) (then_looked (passed cause) l) ≡ then_looked (passed (option_or cause last)) l
through last None l = ap (then_looked (passed last)) (from_nothing l)
through last (Some cause) (decided n) = refl
through last (Some cause) (passed None) = refl
through last (Some cause) (passed (Some later)) = refl

-- what trying comes to, in the words of the node
pub tried_is : (accepts : Accepts) (apex : Place) (keys : List Key) (room t : ℕ) (w : World) (zone : Node) (datas : List (List ℕ)) (group : Group)
    → GoesBy accepts apex keys room t w zone datas → under_keys w zone.signer datas group ≡ checked accepts group apex keys room t
tried_is accepts apex keys room t w zone datas group by =
    ap (λ (a : Accepts). checked a group zone.signer (keys_of datas) w.bounds.room (moment w)) by.accepted
    ∙ (ap (λ (p : Place). checked accepts group p (keys_of datas) w.bounds.room (moment w)) by.signer
    ∙ (ap (λ (ks : List Key). checked accepts group apex ks w.bounds.room (moment w)) by.said
    ∙ (ap (λ (n : ℕ). checked accepts group apex keys n (moment w)) by.bound
    ∙ ap (checked accepts group apex keys room) by.at)))

-- where no pair is good, the name is bogus with the cause
pub refused_by : (tried : Tried (Record × Key)) (cause : Cause) (w : World) (name : Place) (shows : Record × Key → Looked) → cause_of tried ≡ Some cause
    → if_signed w name tried shows ≡ decided (bogus_at w name cause)
refused_by (good p) cause w name shows e = absurd cc
refused_by nothing cause w name shows e = ap (λ (c : Cause). decided (bogus_at w name c)) (same_Some NoSignature cause e)
refused_by all_bad cause w name shows e = ap (λ (c : Cause). decided (bogus_at w name c)) (same_Some BadSignature cause e)
refused_by too_many_bad cause w name shows e = ap (λ (c : Cause). decided (bogus_at w name c)) (same_Some TooManyBadSignatures cause e)

-- a check with indexes found the pair there
pub by_good : (g : Group) (ks : List Key) (check : KeyCheck) (i j : ℕ) (tried : Tried (Record × Key)) → IsCheck g ks check tried → check.signature ≡ Some i → check.key ≡ Some j
    → IsTried g ks tried (Ok (record { signature = i; key = j }))
by_good g ks check i j (good p) is e f =
    let at = is.indexes in (
      p,
      refl,
      ap (slice_get g.signatures) (sym (same_Some _ _ (sym at.2 ∙ e))) ∙ at.4,
      ap (slice_get ks) (sym (same_Some _ _ (sym at.3 ∙ f))) ∙ at.5,
    )
by_good g ks check i j nothing is e f = absurd (let n = sym is.indexes.0 ∙ e in cc)
by_good g ks check i j all_bad is e f = absurd (let n = sym is.indexes.0 ∙ e in cc)
by_good g ks check i j too_many_bad is e f = absurd (let n = sym is.indexes.0 ∙ e in cc)

-- the pair of a signature and a key stands with its group
pub pair_stands : (groups : List Group) (keys : List Key) (index : ℕ) (g : Group) (pair : Pair) (tried : Tried (Record × Key)) → slice_get groups index ≡ Some g → (t : IsTried g keys tried (Ok pair))
    → StandsAt groups keys (record { group = index; signature = pair.signature; key = pair.key }) g t.0
pair_stands groups keys index g pair tried here t = record { group_there = here; signature_there = t.2; key_there = t.3 }

-- one group and one pair stand at indexes
one_there : (groups : List Group) (keys : List Key) (at : SignedAt) (g h : Group) (p q : Record × Key) → StandsAt groups keys at g p → StandsAt groups keys at h q → (g ≡ h) × (p ≡ q)
one_there groups keys at g h p q s t =
    let same : g ≡ h = same_Some _ _ (sym s.group_there ∙ t.group_there) in
    let first : p.0 ≡ q.0 = same_Some _ _ (sym s.signature_there ∙ (ap (λ (x : Group). slice_get x.signatures at.signature) same ∙ t.signature_there)) in
    let second : p.1 ≡ q.1 = same_Some _ _ (sym s.key_there ∙ t.key_there) in
    (same, ap (λ (r : Record). (r, p.1)) first ∙ ap (λ (k : Key). (q.0, k)) second)

-- a decision's indexes are there
pub placed_there : (groups : List Group) (keys : List Key) (at : SignedAt) (g : Group) (p : Record × Key) → StandsAt groups keys at g p → (d : Decision) → AreThere groups keys (placed_at at d)
placed_there groups keys at g p s Within = (g, p, s)
placed_there groups keys at g p s (Insecure basis cause) = (g, p, s)
placed_there groups keys at g p s (Bogus cause) = tt
placed_there groups keys at g p s (Passed cause) = tt

-- a decision with its indexes finds what it decides
module _ (w : World) (zone : Node) (datas : List (List ℕ)) (name : Place) (groups : List Group) (keys : List Key) (at : SignedAt) (g : Group) (p : Record × Key) (s : StandsAt groups keys at g p) where
  pub placed_finds : (d : Decision) (looked : Looked) → looked ≡ decided_by w zone datas name g p d → Finds w zone datas name groups keys (placed_at at d) looked
  placed_finds Within looked e = λ h q t.
      let one = one_there groups keys at g h p q s t in
      e ∙ (ap (λ (x : Group). decided (within_by w zone datas name x p)) one.0 ∙ ap (λ (x : Record × Key). decided (within_by w zone datas name h x)) one.1)
  placed_finds (Insecure basis cause) looked e = λ h q t.
      let one = one_there groups keys at g h p q s t in
      e ∙ (ap (λ (x : Group). decided (insecure_by w zone datas name cause (ground_view basis) x p)) one.0
      ∙ ap (λ (x : Record × Key). decided (insecure_by w zone datas name cause (ground_view basis) h x)) one.1)
  placed_finds (Bogus cause) looked e = e
  placed_finds (Passed cause) looked e = e

-- a reading that bears on the name asks for the group's signatures
pub reading_asks : (w : World) (zone : Node) (datas : List (List ℕ)) (name : Place) (g : Group) (tried : Tried (Record × Key)) (reading : Reading)
    → ((c : Option Cause) → reading ≡ Nothing c → ⊥) → by_reading w zone datas name g tried reading ≡ if_signed w name tried (signed_by w zone datas name g reading)
reading_asks w zone datas name g tried (Nothing cause) some = absurd (some cause refl)
reading_asks w zone datas name g tried (At nsec) some = refl
reading_asks w zone datas name g tried (Above nsec is_empty) some = refl
reading_asks w zone datas name g tried Around some = refl

pub reading_bears : (reading : Reading) → ((c : Option Cause) → reading ≡ Nothing c → ⊥) → bears reading ≡ true
reading_bears (Nothing cause) some = absurd (some cause refl)
reading_bears (At nsec) some = refl
reading_bears (Above nsec is_empty) some = refl
reading_bears Around some = refl

-- what a group shows by its signatures, where a good pair signs it
pub signed_is : (w : World) (zone : Node) (datas : List (List ℕ)) (name : Place) (g : Group) (signature : Record) (p : Record × Key) (tried under : Tried (Record × Key)) (d : Decision)
    (whole : Looked) (shows : Record × Key → Looked) → tried ≡ good p → p.0 ≡ signature → under ≡ tried → if_signed w name under shows ≡ whole
    → ((key : Key) → decided_by w zone datas name g (signature, key) d ≡ shows (signature, key)) → whole ≡ decided_by w zone datas name g p d
signed_is w zone datas name g signature p tried under d whole shows is same asked by decides =
    let pair : p ≡ (signature, p.1) = ap (λ (r : Record). (r, p.1)) same in
    sym by ∙ (ap (λ (x : Tried (Record × Key)). if_signed w name x shows) (asked ∙ is)
    ∙ (ap shows pair ∙ (sym (decides p.1) ∙ ap (λ (x : Record × Key). decided_by w zone datas name g x d) (sym pair))))

-- and where none does
pub refused_is : (w : World) (name : Place) (cause : Cause) (tried under : Tried (Record × Key)) (whole : Looked) (shows : Record × Key → Looked) → cause_of tried ≡ Some cause → under ≡ tried
    → if_signed w name under shows ≡ whole → whole ≡ decided (bogus_at w name cause)
refused_is w name cause tried under whole shows e asked by =
    sym by ∙ (ap (λ (x : Tried (Record × Key)). if_signed w name x shows) asked ∙ refused_by tried cause w name shows e)

-- the search from a group on, each of which shows this
module _ (w : World) (zone : Node) (datas : List (List ℕ)) (name : Place) (by : Group → Looked) (groups : List Group) (i : ℕ) (g : Group) (there : drop i groups ≡ g ∷ drop (i + 1) groups)
    (last : Option Cause) (so_far : then_looked (passed last) (looked_among by (drop i groups)) ≡ looked_among by groups) where
  whole : then_looked (passed last) (then_looked (by g) (looked_among by (drop (i + 1) groups))) ≡ looked_among by groups
  unfolding looked_among
  whole = sym (ap (λ (gs : List Group). then_looked (passed last) (looked_among by gs)) there) ∙ so_far

  -- a group that shows nothing is gone past, and leaves its cause
  pub past : (cause : Option Cause) → by g ≡ passed cause → then_looked (passed (option_or cause last)) (looked_among by (drop (i + 1) groups)) ≡ looked_among by groups
  past cause e =
      sym (through last cause (looked_among by (drop (i + 1) groups)))
      ∙ (ap (λ (l : Looked). then_looked (passed last) (then_looked l (looked_among by (drop (i + 1) groups)))) (sym e) ∙ whole)

  ends : (n : Node) → by g ≡ decided n → looked_among by groups ≡ decided n
  ends n e = sym whole ∙ ap (λ (l : Looked). then_looked (passed last) (then_looked l (looked_among by (drop (i + 1) groups)))) e

  -- a group that decides ends the search
  pub ends_with : (keys : List Key) (found : DsFinding) → ((c : Option Cause) → found ≡ Finding.Passed c → ⊥) → Finds w zone datas name groups keys found (by g)
      → Finds w zone datas name groups keys found (looked_among by groups)
  ends_with keys (Finding.Within at) some f = λ h q t. ends _ (f h q t)
  ends_with keys (Finding.Insecure at basis cause) some f = λ h q t. ends _ (f h q t)
  ends_with keys (Finding.Bogus cause) some f = ends _ f
  ends_with keys (Finding.Passed cause) some f = absurd (some cause refl)

-- after the last group the last cause is left
pub at_the_end : (by : Group → Looked) (groups : List Group) (i : ℕ) (last : Option Cause) → length groups ≤ i
    → then_looked (passed last) (looked_among by (drop i groups)) ≡ looked_among by groups → looked_among by groups ≡ passed last
unfolding looked_among
at_the_end by groups i last end so_far =
    sym so_far ∙ ap (λ (gs : List Group). then_looked (passed last) (looked_among by gs)) (drop_all i groups end)

-- what stands at an index, and what is left from there on
pub from_index : {A : Type 0} (xs : List A) (i : ℕ) → i < length xs → (x : A) × (slice_get xs i ≡ Some x) × (drop i xs ≡ x ∷ drop (i + 1) xs)
from_index [] i below = absurd (omega (arith, below))
from_index (y ∷ ys) zero below = (y, refl, refl)
from_index (y ∷ ys) (suc i) below =
    let later = from_index ys i (omega (arith, below)) in
    let next : suc i + 1 ≡ suc (i + 1) = omega arith in
    (later.0, later.1, later.2 ∙ ap (λ (n : ℕ). later.0 ∷ drop n (y ∷ ys)) (sym next))

-- how many groups are of a type, one after the other
how_many_more : (q : ℕ) (g : Group) (gs : List Group) → how_many q (g ∷ gs) ≡ how_many q (g ∷ []) + how_many q gs
how_many_more q g gs = by (g.rtype == q)
  where
    by : (b : Bool) → length (cond b (g ∷ filter (λ x. x.rtype == q) gs) (filter (λ x. x.rtype == q) gs)) ≡ length (cond b (g ∷ []) []) + length (filter (λ x. x.rtype == q) gs)
    by true = omega arith
    by false = omega arith

-- one of the type
pub one_of : (q : ℕ) (g : Group) → g.rtype ≡ q → how_many q (g ∷ []) ≡ 1
one_of q g e = ap (λ (b : Bool). length (cond b (g ∷ []) [])) (eq-eqb g.rtype q e)

-- the steps of one more group, and room for those that are left
pub one_further : (q : ℕ) (g : Group) (groups : List Group) (i : ℕ) → drop i groups ≡ g ∷ drop (i + 1) groups → (before now then_ room : ℕ) → now ≤ then_ + how_many q (g ∷ []) * room
    → then_ + how_many q (drop i groups) * room ≤ before + how_many q groups * room → now + how_many q (drop (i + 1) groups) * room ≤ before + how_many q groups * room
one_further q g groups i there before now then_ room here so_far =
    let count = ap (how_many q) there ∙ how_many_more q g (drop (i + 1) groups) in
    let product = ap (λ (n : ℕ). n * room) count in
    let parts : (how_many q (g ∷ []) + how_many q (drop (i + 1) groups)) * room ≡ how_many q (g ∷ []) * room + how_many q (drop (i + 1) groups) * room = omega arith in
    omega (arith, here, so_far, product, parts)

-- a group isn't of two types, so that those of the one and of the other are all at most
pub both_types : (q r : ℕ) → (q ≡ r → ⊥) → (groups : List Group) → how_many q groups + how_many r groups ≤ length groups
both_types q r differ [] = omega arith
both_types q r differ (g ∷ gs) = by (g.rtype == q) (g.rtype == r) refl refl (both_types q r differ gs)
  where
    by : (a b : Bool) → (g.rtype == q) ≡ a → (g.rtype == r) ≡ b → how_many q gs + how_many r gs ≤ length gs
        → length (cond a (g ∷ filter (λ x. x.rtype == q) gs) (filter (λ x. x.rtype == q) gs)) + length (cond b (g ∷ filter (λ x. x.rtype == r) gs) (filter (λ x. x.rtype == r) gs)) ≤ suc (length gs)
    by true true e f h = absurd (differ (sym (eqb-true g.rtype q e) ∙ eqb-true g.rtype r f))
    by true false e f h = omega (arith, h)
    by false true e f h = omega (arith, h)
    by false false e f h = omega (arith, h)

-- so is the room for the NSEC groups and the NSEC3 groups
pub room_for_both : (groups : List Group) (room : ℕ) → how_many NSEC groups * room + how_many NSEC3 groups * room ≤ length groups * room
room_for_both groups room =
    let all = mul-le-mul_right {m = how_many NSEC groups + how_many NSEC3 groups} {n = length groups} room (both_types NSEC NSEC3 (λ e. omega (arith, e)) groups) in
    omega (arith, all)

-- what is found first, of NSEC records, and then of NSEC3 records
module _ (w : World) (zone : Node) (datas : List (List ℕ)) (name : Place) (groups : List Group) (keys : List Key) (first later : Looked) where
  -- the first that decides
  pub found_first : (found : DsFinding) → ((c : Option Cause) → found ≡ Finding.Passed c → ⊥) → Finds w zone datas name groups keys found first
      → Finds w zone datas name groups keys found (then_looked first later)
  found_first (Finding.Within at) some f = λ h q t. ap (λ (l : Looked). then_looked l later) (f h q t)
  found_first (Finding.Insecure at basis cause) some f = λ h q t. ap (λ (l : Looked). then_looked l later) (f h q t)
  found_first (Finding.Bogus cause) some f = ap (λ (l : Looked). then_looked l later) f
  found_first (Finding.Passed cause) some f = absurd (some cause refl)

  -- or what is found later, and the last cause
  pub found_later : (cause : Option Cause) → first ≡ passed cause → (found : DsFinding) → Finds w zone datas name groups keys found later
      → Finds w zone datas name groups keys (then_found cause found) (then_looked first later)
  found_later cause e (Finding.Within at) f = λ h q t. ap (λ (l : Looked). then_looked l later) e ∙ ap (then_looked (passed cause)) (f h q t)
  found_later cause e (Finding.Insecure at basis told) f = λ h q t. ap (λ (l : Looked). then_looked l later) e ∙ ap (then_looked (passed cause)) (f h q t)
  found_later cause e (Finding.Bogus told) f = ap (λ (l : Looked). then_looked l later) e ∙ ap (then_looked (passed cause)) f
  found_later cause e (Finding.Passed last) f = ap (λ (l : Looked). then_looked l later) e ∙ (ap (then_looked (passed cause)) f ∙ last_left last)
    where
      last_left : (o : Option Cause) → then_looked (passed cause) (passed o) ≡ passed (option_or o cause)
      last_left None = refl
      last_left (Some c) = refl

-- what is found later is there
pub there_later : (groups : List Group) (keys : List Key) (cause : Option Cause) (found : DsFinding) → AreThere groups keys found → AreThere groups keys (then_found cause found)
there_later groups keys cause (Finding.Within at) t = t
there_later groups keys cause (Finding.Insecure at basis told) t = t
there_later groups keys cause (Finding.Bogus told) t = tt
there_later groups keys cause (Finding.Passed last) t = tt

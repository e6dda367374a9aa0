-- A signature's check, by the tests that come before the verifier's.
use Rattle.std.proofs.Common.{◌≡◌, ◌↔◌, ℕ, ◌≤◌, ◌==◌, Bool, true, false, cond, List, map, length, take, IsTrue, None, refl, sym, ap, subst, ◌∙◌}
use Rattle.std.specs.Prelude.{All, Some, Result, Ok, Err, IfOk, unwrap_or}
use Rattle.std.specs.Option.{is_some}
use Rattle.std.proofs.lemmas.List.{take_all}
use Rattle.std.proofs.lemmas.List.Elements.{All-map}
use Rattle.std.proofs.lemmas.Bool.{false≢true, true≢false, eqb-true}
use Rattle.std.proofs.lemmas.Bool.Decides.{same_from_decides}
use Rattle.dsec_spec.specs.Accepts.{Accepts}
use Rattle.dsec_spec.specs.Groups.{Group, set_in}
use Rattle.dsec_spec.specs.Names.{Place}
use Rattle.dsec_spec.specs.Numbers.{RRSIG}
use Rattle.dsec_spec.specs.Records.{Record, RecordSet, Key, Rrsig, beside, rrsig_of}
use Rattle.dsec_spec.specs.Signed.{Signed, names_key, signs}
use Rattle.dsec_spec.specs.SignedBytes.{signed_bytes}
use Rattle.dsec_spec.specs.Trying.{pair_matches, pair_signs}
use Rattle.dsec_spec.proofs.SignedTests.{NamesKey, names_key_decides, signs_decides}
use Rattle.dsec_wire.specs.TypedData.{TypedData, data_of}
use Rattle.dsec_wire.specs.Views.{rrsig_in}
use Rattle.dsec_group.specs.Checks.{IsOfKey, IsSignedBy}
use Rattle.dsec_link.specs.Sets.{AreOf}
use Rattle.dsec_link.specs.Tests.{MaySign, Names}
use Rattle.dsec_link.proofs.SignedTests.{signed_by_tests}

-- the tests of the code and of the definition are one
pub names_is : (sig : Rrsig) (key : Key) (zone : Place) (b : Bool) → (IsTrue b ↔ Names sig key zone) → b ≡ names_key zone sig key
names_is sig key zone b h = same_from_decides b (names_key zone sig key) (there, back) (names_key_decides zone sig key) where
  there : b ≡ true → NamesKey zone sig key
  there e = let n = h.0 e in record { signer = n.signer; algorithm = n.algorithm; tag = n.tag }

  back : NamesKey zone sig key → b ≡ true
  back n = h.1 (record { signer = n.signer; algorithm = n.algorithm; tag = n.tag })

module _ (accepts : Accepts) (set : RecordSet) (sig : Rrsig) (key : Key) (zone : Place) (t : ℕ) where
  abbrev verifier_says : Bool
  verifier_says = accepts key.flags key.protocol key.algorithm key.public_key (signed_bytes sig set) sig.signature

  pub heard : (answer : Bool) (message : List ℕ) → answer ≡ accepts key.flags key.protocol key.algorithm key.public_key message sig.signature → message ≡ signed_bytes sig set
      → answer ≡ verifier_says
  heard answer message said is = said ∙ ap (λ m. accepts key.flags key.protocol key.algorithm key.public_key m sig.signature) is

  names_back : names_key zone sig key ≡ true → Names sig key zone
  names_back e = let n = (names_key_decides zone sig key).0 e in record { signer = n.signer; algorithm = n.algorithm; tag = n.tag }

  signs_at_once : (b : Bool) → (b ≡ true → Signed accepts set (beside set sig) key zone t) → (Signed accepts set (beside set sig) key zone t → b ≡ true) → b ≡ signs accepts set zone t sig key
  signs_at_once b there back = same_from_decides b (signs accepts set zone t sig key) (there, back) (signs_decides accepts set zone t sig key)

  -- a test that fails
  pub unsigned_by_test : (may : Bool) → may ≡ false → (IsTrue may ↔ MaySign set.owner set.rtype sig key zone t) → false ≡ signs accepts set zone t sig key
  unsigned_by_test may e h = signs_at_once false (λ f. absurd (false≢true f)) (λ s. absurd (false≢true (sym e ∙ h.1 ((signed_by_tests accepts set sig key zone t).1 s).0)))

  pub unsigned_by_name : (names : Bool) → names ≡ false → names ≡ names_key zone sig key → false ≡ signs accepts set zone t sig key
  unsigned_by_name names e h = signs_at_once false (λ f. absurd (false≢true f)) (λ s.
      let n = ((signed_by_tests accepts set sig key zone t).1 s).1 in
      absurd (false≢true (sym e ∙ h ∙ (names_key_decides zone sig key).1 (record { signer = n.signer; algorithm = n.algorithm; tag = n.tag }))))

  -- the verifier's answer, where the others pass
  pub signed_by_answer : (may names answer : Bool) → may ≡ true → (IsTrue may ↔ MaySign set.owner set.rtype sig key zone t) → names ≡ true → names ≡ names_key zone sig key → answer ≡ verifier_says
      → answer ≡ signs accepts set zone t sig key
  signed_by_answer may names answer m hm n hn y = signs_at_once answer
      (λ e. (signed_by_tests accepts set sig key zone t).0 (hm.0 m, names_back (sym hn ∙ n), sym y ∙ e))
      (λ s. y ∙ ((signed_by_tests accepts set sig key zone t).1 s).2)

-- the data of a group's records, which were copied one by one
pub all_copied : (rs : List Record) (n : ℕ) (datas : List TypedData) → length rs ≤ n → datas ≡ map data_of (take n rs) → datas ≡ map data_of rs
all_copied rs n datas past is = is ∙ ap (map data_of) (take_all n rs past)

pub copies_typed : (rtype : ℕ) (rs : List Record) → All (λ (r : Record). r.rtype ≡ rtype) rs → AreOf rtype (map data_of rs)
copies_typed rtype rs h = All-map (λ (d : TypedData). d.rtype ≡ rtype) data_of rs h

-- a pair, where the record's data are read
pub matches_read : (r : Record) (sig : Rrsig) (key : Key) (zone : Place) → rrsig_of r.rdata ≡ Some sig → pair_matches zone (r, key) ≡ names_key zone sig key
matches_read r sig key zone e = rw e refl

pub signs_read : (accepts : Accepts) (set : RecordSet) (r : Record) (sig : Rrsig) (key : Key) (zone : Place) (t : ℕ) → rrsig_of r.rdata ≡ Some sig
    → pair_signs accepts set zone t (r, key) ≡ signs accepts set zone t sig key
signs_read accepts set r sig key zone t e = rw e refl

-- what a record's data were read as
pub read_is : (d : TypedData) (r : Record) (sig : Rrsig) → d ≡ data_of r → Some sig ≡ rrsig_in d → (r.rtype ≡ RRSIG) × (rrsig_of r.rdata ≡ Some sig)
read_is d r sig of_it read = go (r.rtype == RRSIG) refl (read ∙ ap rrsig_in of_it) where
  go : (b : Bool) → (r.rtype == RRSIG) ≡ b → Some sig ≡ cond b (rrsig_of r.rdata) None → (r.rtype ≡ RRSIG) × (rrsig_of r.rdata ≡ Some sig)
  go true e h = (eqb-true r.rtype RRSIG e, sym h)
  go false e h = absurd (true≢false (ap is_some h))

module _ (accepts : Accepts) (g : Group) (r : Record) (sig : Rrsig) (key : Key) (zone key_place : Place) (tag t : ℕ)
    (read : (r.rtype ≡ RRSIG) × (rrsig_of r.rdata ≡ Some sig)) where
  one_sig : (other : Rrsig) → rrsig_of r.rdata ≡ Some other → other ≡ sig
  one_sig other e = ap (λ o. unwrap_or o sig) (sym e ∙ read.1)

  signed_there : IsOfKey g r zone key key_place tag → Signed accepts (set_in g) (beside (set_in g) sig) key zone t → IsSignedBy accepts g r zone key key_place tag t
  signed_there of_key s = record {
    sig = sig;
    is_signature = read.0;
    says = read.1;
    signed = record {
      same_owner = of_key.owner;
      same_class = of_key.class;
      covers = s.covers;
      signer = s.signer;
      within = s.within;
      labels = s.labels;
      algorithm = s.algorithm;
      tag = s.tag;
      zone_key = s.zone_key;
      period = s.period;
      accepted = s.accepted;
    };
    of_zone = of_key.of_zone;
    its_tag = of_key.its_tag;
  }

  signed_here : IsSignedBy accepts g r zone key key_place tag t → Signed accepts (set_in g) (beside (set_in g) sig) key zone t
  signed_here by_it =
      let s = by_it.signed in
      subst (λ x. Signed accepts (set_in g) (beside (set_in g) x) key zone t) (one_sig by_it.sig by_it.says) (record {
        same_owner = refl;
        same_class = refl;
        covers = s.covers;
        signer = s.signer;
        within = s.within;
        labels = s.labels;
        algorithm = s.algorithm;
        tag = s.tag;
        zone_key = s.zone_key;
        period = s.period;
        accepted = s.accepted;
      })

  pub not_of_key : (b : Bool) → b ≡ false → (IsTrue b ↔ IsOfKey g r zone key key_place tag) → IsTrue false ↔ IsSignedBy accepts g r zone key key_place tag t
  not_of_key b e h = (
    λ f. absurd (false≢true f),
    λ s.
        absurd (false≢true (sym e ∙ h.1 (record { owner = s.signed.same_owner; class = s.signed.same_class; of_zone = s.of_zone; its_tag = s.its_tag }))),
  )

  by_answer : (b answer : Bool) → b ≡ true → (IsTrue b ↔ IsOfKey g r zone key key_place tag) → answer ≡ signs accepts (set_in g) zone t sig key
      → IsTrue answer ↔ IsSignedBy accepts g r zone key key_place tag t
  by_answer b answer e h says =
      let both = signs_decides accepts (set_in g) zone t sig key in
      (λ a. signed_there (h.0 e) (both.0 (sym says ∙ a)), λ s. says ∙ both.1 (signed_here s))

  pub of_key_signs : {E : Type 0} (b : Bool) (result : Result Bool E) → b ≡ true → (IsTrue b ↔ IsOfKey g r zone key key_place tag)
      → IfOk result (λ answer. answer ≡ signs accepts (set_in g) zone t sig key) → IfOk result (λ answer. IsTrue answer ↔ IsSignedBy accepts g r zone key key_place tag t)
  of_key_signs b (Ok answer) e h says = by_answer b answer e h says
  of_key_signs b (Err error) e h says = tt

-- The data of an RRSIG record, read in steps: 18 octets, the signer's name and the signature.
use Rattle.std.proofs.Common.{◌≡◌, ℕ, zero, suc, ◌<◌, ◌≤◌, List, [], ◌∷◌, length, drop, Option, Some, None, refl, ap, ◌∙◌, arith, length-append}
use Rattle.std.specs.Prelude.{slice_get}
use Rattle.std.proofs.lemmas.List.{drop_at}
use Rattle.std.proofs.lemmas.Option.{same_Some}
use Rattle.dsec_spec.specs.Names.{Labels}
use Rattle.dsec_spec.specs.Numbers.{RRSIG}
use Rattle.dsec_spec.specs.Layouts.{octets, lowered_name, rest}
use Rattle.dsec_spec.specs.Reading.{◌>>=◌, u16_at, u32_at}
use Rattle.dsec_spec.specs.RecordData.{Part, lowered, plain, IsReadable, octets_in, name_in, part_in, parts_in}
use Rattle.dsec_spec.specs.Records as records
use Rattle.dsec_spec.specs.Records.{rrsig_of}
use Rattle.dsec_spec.proofs.ReadingLemmas.{from_bind}
use Rattle.dsec_spec.proofs.RecordDataLemmas.{parts_of-readable}
use Rattle.dsec_spec.proofs.RecordViewLemmas.{long_number_there, number_there}
use Rattle.dsec_spec.proofs.WireNameLemmas.{from_octets_in}
use Rattle.dsec_wire.specs.declared.rrsig.RrsigHead.{RrsigHead}
use Rattle.dsec_wire.specs.RrsigHeads.{rrsig_head}

-- a signature of a head, and what follows it
abbrev pub rrsig_with : RrsigHead → Labels × List ℕ → records.Rrsig
rrsig_with head signer = record {
  covered = head.type_covered;
  algorithm = head.algorithm;
  labels = head.labels;
  original_ttl = head.original_ttl;
  expiration = head.expiration;
  inception = head.inception;
  tag = head.key_tag;
  signer = signer.0;
  signature = signer.1;
}

abbrev head_of : ℕ → ℕ → ℕ → ℕ → ℕ → ℕ → ℕ → RrsigHead
head_of covered algorithm labels ttl expiration inception tag =
    record { type_covered = covered; algorithm = algorithm; labels = labels; original_ttl = ttl; expiration = expiration; inception = inception; key_tag = tag }

regroup : {A : Type 0} (a b c d e f g : Option ℕ) (others : RrsigHead → Option A)
    → (a >>= λ i. b >>= λ j. c >>= λ k. d >>= λ l. e >>= λ m. f >>= λ n. g >>= λ o. others (head_of i j k l m n o))
    ≡ ((a >>= λ i. b >>= λ j. c >>= λ k. d >>= λ l. e >>= λ m. f >>= λ n. g >>= λ o. Some (head_of i j k l m n o)) >>= others)
regroup None b c d e f g others = refl
regroup (Some i) None c d e f g others = refl
regroup (Some i) (Some j) None d e f g others = refl
regroup (Some i) (Some j) (Some k) None e f g others = refl
regroup (Some i) (Some j) (Some k) (Some l) None f g others = refl
regroup (Some i) (Some j) (Some k) (Some l) (Some m) None g others = refl
regroup (Some i) (Some j) (Some k) (Some l) (Some m) (Some n) None others = refl
regroup (Some i) (Some j) (Some k) (Some l) (Some m) (Some n) (Some o) others = refl

by_head : (x : List ℕ) → rrsig_of x ≡ (rrsig_head x >>= λ head. name_in (drop 18 x) >>= λ signer. Some (rrsig_with head signer))
unfolding rrsig_of
by_head x =
    regroup (u16_at x 0) (slice_get x 2) (slice_get x 3) (u32_at x 4) (u32_at x 8) (u32_at x 12) (u16_at x 16) (λ head. name_in (drop 18 x) >>= λ signer. Some (rrsig_with head signer))

pub rrsig_no_head : (x : List ℕ) → rrsig_head x ≡ None → rrsig_of x ≡ None
rrsig_no_head x e = by_head x ∙ rw e refl

pub rrsig_no_signer : (x : List ℕ) (head : RrsigHead) → rrsig_head x ≡ Some head → name_in (drop 18 x) ≡ None → rrsig_of x ≡ None
rrsig_no_signer x head h e = by_head x ∙ rw (h, e) refl

pub rrsig_whole : (x : List ℕ) (head : RrsigHead) (signer : Labels × List ℕ) → rrsig_head x ≡ Some head → name_in (drop 18 x) ≡ Some signer → rrsig_of x ≡ Some (rrsig_with head signer)
rrsig_whole x head signer h e = by_head x ∙ rw (h, e) refl

octet_there : (x : List ℕ) (i : ℕ) → i < length x → (n : ℕ) × (slice_get x i ≡ Some n)
octet_there [] i below = absurd (omega arith)
octet_there (first ∷ x) zero below = (first, refl)
octet_there (first ∷ x) (suc i) below = octet_there x i (omega arith)

head_there : (x : List ℕ) → 18 ≤ length x → (head : RrsigHead) × (rrsig_head x ≡ Some head)
head_there x long =
    let a = number_there x 0 (omega arith) in
    let b = octet_there x 2 (omega arith) in
    let c = octet_there x 3 (omega arith) in
    let d = long_number_there x 4 (omega arith) in
    let e = long_number_there x 8 (omega arith) in
    let f = long_number_there x 12 (omega arith) in
    let g = number_there x 16 (omega arith) in
    (head_of a.0 b.0 c.0 d.0 e.0 f.0 g.0, rw (a.1, b.1, c.1, d.1, e.1, f.1, g.1) refl)

-- readable data begin with 18 octets and a name
signer_there : (x : List ℕ) → IsReadable RRSIG x → (18 ≤ length x) × ((signer : Labels × List ℕ) × (name_in (drop 18 x) ≡ Some signer))
unfolding parts_in
signer_there x readable =
    let b = from_bind (part_in (octets 18) x) _ _ (parts_of-readable RRSIG x readable) in
    let t = from_bind (octets_in 18 x) (λ (taken : List ℕ × List ℕ). Some (plain taken.0, taken.1)) b.0 b.1 in
    let front = from_octets_in 18 x t.0.0 t.0.1 t.1 in
    let others = from_bind (parts_in (lowered_name ∷ rest ∷ []) b.0.1) _ _ b.2 in
    let name = from_bind (part_in lowered_name b.0.1) _ _ others.1 in
    let signer = from_bind (name_in b.0.1) (λ (n : Labels × List ℕ). Some (lowered n.0, n.1)) name.0 name.1 in
    let after : drop 18 x ≡ b.0.1 = (ap (drop 18) front.1 ∙ drop_at t.0.0 t.0.1 18 front.0) ∙ ap (λ (part : Part × List ℕ). part.1) (same_Some _ _ t.2) in
    (omega (arith, ap length front.1, length-append t.0.0 t.0.1, front.0), (signer.0, ap name_in after ∙ signer.1))

-- readable data of an RRSIG record say a signature
pub rrsig_from_readable : (x : List ℕ) → IsReadable RRSIG x → (sig : records.Rrsig) × (rrsig_of x ≡ Some sig)
rrsig_from_readable x readable =
    let signer = signer_there x readable in
    let head = head_there x signer.0 in
    (rrsig_with head.0 signer.1.0, by_head x ∙ rw (head.1, signer.1.1) refl)

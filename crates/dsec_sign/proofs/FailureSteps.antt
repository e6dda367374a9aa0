-- Counts of faults, one key after the other.
use Rattle.std.proofs.Common.{◌≡◌, ℕ, ◌<◌, List, Result, Err, length, get_or, slice_set, sym, ap, ◌∙◌, subst, arith}
use Rattle.std.proofs.lemmas.List.{length-map, get_or-map, map-set}
use Rattle.dsec_spec.specs.Outside.{risen}
use Rattle.dsec_rrsig.specs.Failures.{CountsError}
use Rattle.dsec_rrsig.specs.Signers.{count_in}
use Rattle.dsec_rrsig.specs.declared.error.SignError.{SignError}
use Rattle.dsec_rrsig.specs.declared.error.SignError.TheVariants as sign
use Rattle.dsec_rrsig.specs.declared.signing_key.SigningKey.{SigningKey}
use Rattle.dsec_sign.specs.SignerFaults.{CountErrors, CountSignings, OneFailed, counts_of}
use Rattle.dsec_sign.proofs.SignerSteps.{mapped_set}

module _ {I : Type 0} (count_of : I → ℕ) where
  same_length : (old keys : List (SigningKey I)) → counts_of count_of keys ≡ counts_of count_of old → length keys ≡ length old
  same_length old keys same = sym (length-map keys (count_in count_of)) ∙ (ap length same ∙ length-map old (count_in count_of))

  -- the counts, once one of the keys was used
  used : (old keys : List (SigningKey I)) (i : ℕ) (new : SigningKey I) → counts_of count_of keys ≡ counts_of count_of old
      → counts_of count_of (slice_set keys i new) ≡ slice_set (counts_of count_of old) i (count_in count_of new)
  used old keys i new same = map-set (count_in count_of) keys i new ∙ ap (λ (ns : List ℕ). slice_set ns i (count_in count_of new)) same

  before : (old keys : List (SigningKey I)) (i : ℕ) (d : SigningKey I) → counts_of count_of keys ≡ counts_of count_of old → i < length keys
      → count_in count_of (get_or keys i d) ≡ get_or (counts_of count_of old) i 0
  before old keys i d same lt = sym (get_or-map (count_in count_of) keys i d 0 lt) ∙ ap (λ (ns : List ℕ). get_or ns i 0) same

  -- a key was used, and its count is as it was
  pub quiet_once : (old keys : List (SigningKey I)) (i : ℕ) (new d : SigningKey I) → counts_of count_of keys ≡ counts_of count_of old → i < length keys
      → count_in count_of new ≡ count_in count_of (get_or keys i d) → counts_of count_of (slice_set keys i new) ≡ counts_of count_of old
  quiet_once old keys i new d same lt is = mapped_set (count_in count_of) keys i new d lt is ∙ same

  failed_once : (old keys : List (SigningKey I)) (i : ℕ) (new d : SigningKey I) → counts_of count_of keys ≡ counts_of count_of old → i < length keys
      → count_in count_of new ≡ risen (count_in count_of (get_or keys i d)) → OneFailed count_of old (slice_set keys i new)
  failed_once old keys i new d same lt is = record {
    at = i;
    within = omega (arith, lt, same_length old keys same);
    is = used old keys i new same ∙ ap (slice_set (counts_of count_of old) i) (is ∙ ap risen (before old keys i d same lt));
  }

  -- a key was used, and gave no signature
  pub counts_once : (old keys : List (SigningKey I)) (i : ℕ) (new d : SigningKey I) (e : SignError) → counts_of count_of keys ≡ counts_of count_of old → i < length keys
      → CountsError (count_in count_of (get_or keys i d)) (count_in count_of new) e → CountErrors count_of old (slice_set keys i new) e
  counts_once old keys i new d sign.Failed same lt counts = failed_once old keys i new d same lt counts
  counts_once old keys i new d sign.NoMemory same lt counts = quiet_once old keys i new d same lt counts

  -- a result that is this error
  pub counts_as : {T : Type 0} (old new : List (SigningKey I)) (r : Result T SignError) (e : SignError) → r ≡ Err e → CountErrors count_of old new e → CountSignings count_of old new r
  counts_as old new r e is counts = subst (λ (x : Result _ SignError). CountSignings count_of old new x) (sym is) counts

  -- what is counted from a moment on at which all counts were as at first is counted from the first
  pub counts_then : (old mid new : List (SigningKey I)) (e : SignError) → counts_of count_of mid ≡ counts_of count_of old
      → CountErrors count_of mid new e → CountErrors count_of old new e
  counts_then old mid new sign.Failed same counts = record {
    at = counts.at;
    within = let w = counts.within in omega (arith, w, same_length old mid same);
    is = counts.is ∙ ap (λ (ns : List ℕ). slice_set ns counts.at (risen (get_or ns counts.at 0))) same;
  }
  counts_then old mid new sign.NoMemory same counts = counts ∙ same

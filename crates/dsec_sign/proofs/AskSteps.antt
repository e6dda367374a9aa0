-- How keys were asked, one key and one set after the other.
use Rattle.std.proofs.Common.{◌≡◌, ℕ, zero, suc, ◌+◌, ◌<◌, ◌≤◌, List, [], ◌∷◌, ◌++◌, Option, Result, Err, length, take, map, get_or, slice_set, refl, sym, ap, ◌∙◌, subst, inl, inr, arith}
use Rattle.std.proofs.lemmas.List.{length-map, get_or-map, map-set}
use Rattle.std.proofs.Math.Seq.{take-suc}
use Rattle.dsec_spec.specs.Records.{Key, Record}
use Rattle.dsec_spec.specs.Signatures.{Period}
use Rattle.dsec_rrsig.specs.Asks.{Asked, AsksError, asked_of, asked_untold}
use Rattle.dsec_rrsig.specs.Errors.{of_sign_error}
use Rattle.dsec_rrsig.specs.Made.{message_for}
use Rattle.dsec_rrsig.specs.declared.error.SignError.{SignError}
use Rattle.dsec_rrsig.specs.declared.error.SignError.TheVariants as sign
use Rattle.dsec_rrsig.specs.declared.error.SigningError.{SigningError}
use Rattle.dsec_rrsig.specs.declared.error.SigningError.TheVariants as signing
use Rattle.dsec_rrsig.specs.declared.signing_key.SigningKey.{SigningKey}
use Rattle.dsec_sign.specs.SignerAsks.{AreAsked, AreAskedAtMost, AskedAtMost, AskRefusals, AskSignings, all_asked, asked_for_each, asked_to_sign}
use Rattle.dsec_sign.proofs.SignerSteps.{mapped_set}

-- signers, of which the first so many were asked for the set
abbrev pub first_asked : Period → List Record → ℕ → List Asked → List Asked
first_asked period set zero ns = ns
first_asked period set (suc i) [] = []
first_asked period set (suc i) (n ∷ ns) = asked_to_sign period set n ∷ first_asked period set i ns

unasked : (period : Period) (sets : List (List Record)) (n : Asked) → AskedAtMost period sets n n
unasked period sets n = record { many = 0; is = inl refl }

module _ (period : Period) (set : List Record) where
  length_first : (i : ℕ) (ns : List Asked) → length (first_asked period set i ns) ≡ length ns
  length_first zero ns = refl
  length_first (suc i) [] = refl
  length_first (suc i) (n ∷ ns) = ap suc (length_first i ns)

  -- the next one is asked
  next_first : (ns : List Asked) (i : ℕ) (d : Asked) → i < length ns → slice_set (first_asked period set i ns) i (asked_to_sign period set (get_or (first_asked period set i ns) i d)) ≡ first_asked period set (suc i) ns
  next_first [] i d lt = absurd (omega arith)
  next_first (n ∷ ns) zero d lt = refl
  next_first (n ∷ ns) (suc i) d lt = ap (λ (ms : List Asked). asked_to_sign period set n ∷ ms) (next_first ns i d (omega arith))

  all_first : (ns : List Asked) (i : ℕ) → length ns ≤ i → AreAsked period (set ∷ []) ns (first_asked period set i ns)
  all_first [] zero le = refl
  all_first [] (suc i) le = refl
  all_first (n ∷ ns) zero le = absurd (omega arith)
  all_first (n ∷ ns) (suc i) le = ap (λ (ms : List Asked). asked_to_sign period set n ∷ ms) (all_first ns i (omega arith))

  some_first : (i : ℕ) (ns : List Asked) → AreAskedAtMost period (set ∷ []) ns (first_asked period set i ns)
  some_first zero [] = tt
  some_first zero (n ∷ ns) = (unasked period (set ∷ []) n, some_first zero ns)
  some_first (suc i) [] = tt
  some_first (suc i) (n ∷ ns) = (record { many = 1; is = inl refl }, some_first i ns)

  -- the next one was asked, and doesn't tell it
  untold_next : (ns : List Asked) (i : ℕ) (d : Asked) → i < length ns → AreAskedAtMost period (set ∷ []) ns (slice_set (first_asked period set i ns) i (asked_untold (get_or (first_asked period set i ns) i d)))
  untold_next [] i d lt = absurd (omega arith)
  untold_next (n ∷ ns) zero d lt = (record { many = 0; is = inr (omega arith, refl) }, some_first 0 ns)
  untold_next (n ∷ ns) (suc i) d lt = (record { many = 1; is = inl refl }, untold_next ns i d (omega arith))

  -- ---- of keys, of which the first so many were asked

  module _ {I : Type 0} (key_of : I → Key) (times_of : I → ℕ) (given_of : I → Option (List (List ℕ))) where
    -- one more was asked
    pub asked_more : (old keys : List (SigningKey I)) (i : ℕ) (new d : SigningKey I) → all_asked key_of times_of given_of keys ≡ first_asked period set i (all_asked key_of times_of given_of old)
        → i < length keys → asked_of key_of times_of given_of new ≡ asked_to_sign period set (asked_of key_of times_of given_of (get_or keys i d))
        → all_asked key_of times_of given_of (slice_set keys i new) ≡ first_asked period set (i + 1) (all_asked key_of times_of given_of old)
    asked_more old keys i new d same lt is =
        let view = asked_of key_of times_of given_of in
        let ns = all_asked key_of times_of given_of old in
        let one : get_or (first_asked period set i ns) i (view d) ≡ view (get_or keys i d) = ap (λ (ms : List Asked). get_or ms i (view d)) (sym same) ∙ get_or-map view keys i d (view d) lt in
        let within : i < length ns = omega (arith, lt, length-map keys view, ap length same, length_first i ns) in
        let next : suc i ≡ i + 1 = omega arith in
        map-set view keys i new ∙ (ap (λ (ms : List Asked). slice_set ms i (view new)) same
        ∙ (ap (λ (m : Asked). slice_set (first_asked period set i ns) i m) (is ∙ ap (asked_to_sign period set) (sym one)) ∙ (next_first ns i (view d) within ∙ ap (λ (k : ℕ). first_asked period set k ns) next)))

    -- then each was asked once at most
    pub asked_once : (old keys : List (SigningKey I)) (i : ℕ) (new d : SigningKey I) → all_asked key_of times_of given_of keys ≡ first_asked period set i (all_asked key_of times_of given_of old)
        → i < length keys → asked_of key_of times_of given_of new ≡ asked_to_sign period set (asked_of key_of times_of given_of (get_or keys i d))
        → AreAskedAtMost period (set ∷ []) (all_asked key_of times_of given_of old) (all_asked key_of times_of given_of (slice_set keys i new))
    asked_once old keys i new d same lt is =
        let ns = all_asked key_of times_of given_of old in
        subst (λ (ms : List Asked). AreAskedAtMost period (set ∷ []) ns ms) (sym (asked_more old keys i new d same lt is)) (some_first (i + 1) ns)

    -- also where it doesn't tell for what
    asked_untold_of : (old keys : List (SigningKey I)) (i : ℕ) (new d : SigningKey I) → all_asked key_of times_of given_of keys ≡ first_asked period set i (all_asked key_of times_of given_of old)
        → i < length keys → asked_of key_of times_of given_of new ≡ asked_untold (asked_of key_of times_of given_of (get_or keys i d))
        → AreAskedAtMost period (set ∷ []) (all_asked key_of times_of given_of old) (all_asked key_of times_of given_of (slice_set keys i new))
    asked_untold_of old keys i new d same lt is =
        let view = asked_of key_of times_of given_of in
        let ns = all_asked key_of times_of given_of old in
        let one : get_or (first_asked period set i ns) i (view d) ≡ view (get_or keys i d) = ap (λ (ms : List Asked). get_or ms i (view d)) (sym same) ∙ get_or-map view keys i d (view d) lt in
        let within : i < length ns = omega (arith, lt, length-map keys view, ap length same, length_first i ns) in
        let all : all_asked key_of times_of given_of (slice_set keys i new) ≡ slice_set (first_asked period set i ns) i (asked_untold (get_or (first_asked period set i ns) i (view d))) =
        map-set view keys i new ∙ (ap (λ (ms : List Asked). slice_set ms i (view new)) same ∙ ap (λ (m : Asked). slice_set (first_asked period set i ns) i m) (is ∙ ap asked_untold (sym one))) in
        subst (λ (ms : List Asked). AreAskedAtMost period (set ∷ []) ns ms) (sym all) (untold_next ns i (view d) within)

    -- also where it gave no signature
    pub asked_in_vain : (old keys : List (SigningKey I)) (i : ℕ) (new d : SigningKey I) (e : SignError) → all_asked key_of times_of given_of keys ≡ first_asked period set i (all_asked key_of times_of given_of old)
        → i < length keys → AsksError (message_for (asked_of key_of times_of given_of (get_or keys i d)).by period set) (asked_of key_of times_of given_of (get_or keys i d)) (asked_of key_of times_of given_of new) e
        → AreAskedAtMost period (set ∷ []) (all_asked key_of times_of given_of old) (all_asked key_of times_of given_of (slice_set keys i new))
    asked_in_vain old keys i new d sign.Failed same lt asks = asked_once old keys i new d same lt asks
    asked_in_vain old keys i new d sign.NoMemory same lt asks = elim asks [
      | inl none ↦ subst (λ (ms : List Asked). AreAskedAtMost period (set ∷ []) (all_asked key_of times_of given_of old) ms)
          (sym (mapped_set (asked_of key_of times_of given_of) keys i new d lt none ∙ same)) (some_first i (all_asked key_of times_of given_of old))
      | inr (inl once) ↦ asked_once old keys i new d same lt once
      | inr (inr untold) ↦ asked_untold_of old keys i new d same lt untold
    ]

    -- all were asked
    pub all_once : (old keys : List (SigningKey I)) (i : ℕ) → all_asked key_of times_of given_of keys ≡ first_asked period set i (all_asked key_of times_of given_of old) → length keys ≤ i
        → AreAsked period (set ∷ []) (all_asked key_of times_of given_of old) (all_asked key_of times_of given_of keys)
    all_once old keys i same le =
        let ns = all_asked key_of times_of given_of old in
        let within : length ns ≤ i = omega (arith, le, length-map keys (asked_of key_of times_of given_of), ap length same, length_first i ns) in
        same ∙ all_first ns i within

-- ---- for one set after the other

pub none_asked : (period : Period) (ns : List Asked) → AreAsked period [] ns ns
none_asked period [] = refl
none_asked period (n ∷ ns) = ap (λ (ms : List Asked). n ∷ ms) (none_asked period ns)

pub none_at_most : (period : Period) (sets : List (List Record)) (ns : List Asked) → AreAskedAtMost period sets ns ns
none_at_most period sets [] = tt
none_at_most period sets (n ∷ ns) = (unasked period sets n, none_at_most period sets ns)

each_more : (period : Period) (sets : List (List Record)) (set : List Record) (n : Asked) → asked_for_each period (sets ++ set ∷ []) n ≡ asked_to_sign period set (asked_for_each period sets n)
each_more period [] set n = refl
each_more period (s ∷ sets) set n = each_more period sets set (asked_to_sign period s n)

take_none : (k : ℕ) → take {A = List Record} k [] ≡ []
take_none zero = refl
take_none (suc k) = refl

take_most : (sets : List (List Record)) (i : ℕ) → length sets ≤ i → take i sets ≡ sets
take_most [] i le = take_none i
take_most (set ∷ sets) zero le = absurd (omega arith)
take_most (set ∷ sets) (suc i) le = ap (λ (xs : List (List Record)). set ∷ xs) (take_most sets i (omega arith))

-- for all of them
pub all_sets : (period : Period) (sets : List (List Record)) (i : ℕ) (old new : List Asked) → length sets ≤ i → AreAsked period (take i sets) old new → AreAsked period sets old new
all_sets period sets i old new le is = subst (λ (xs : List (List Record)). AreAsked period xs old new) (take_most sets i le) is

module _ (period : Period) (sets : List (List Record)) (i : ℕ) (set : List Record) (lt : i < length sets) (at : get_or sets i set ≡ set) where
  -- the sets up to this, and this
  more_of : (n : Asked) → asked_to_sign period set (asked_for_each period (take i sets) n) ≡ asked_for_each period (take (i + 1) sets) n
  more_of n =
      let next : i + 1 ≡ suc i = omega arith in
      let taken : take (i + 1) sets ≡ take i sets ++ set ∷ [] = ap (λ (k : ℕ). take k sets) next ∙ (take-suc sets i set lt ∙ ap (λ (s : List Record). take i sets ++ s ∷ []) at) in
      sym (ap (λ (xs : List (List Record)). asked_for_each period xs n) taken ∙ each_more period (take i sets) set n)

  -- for a set more
  pub set_asked : (old mid new : List Asked) → AreAsked period (take i sets) old mid → AreAsked period (set ∷ []) mid new → AreAsked period (take (i + 1) sets) old new
  set_asked old mid new first second = second ∙ (ap (map (asked_for_each period (set ∷ []))) first ∙ again old)
    where
      again : (ns : List Asked) → map (asked_for_each period (set ∷ [])) (map (asked_for_each period (take i sets)) ns) ≡ map (asked_for_each period (take (i + 1) sets)) ns
      again [] = refl
      again (n ∷ ns) =
          ap (λ (m : Asked). m ∷ map (asked_for_each period (set ∷ [])) (map (asked_for_each period (take i sets)) ns)) (more_of n)
          ∙ ap (λ (ms : List Asked). asked_for_each period (take (i + 1) sets) n ∷ ms) (again ns)

  -- a set more at most
  one_more : (n m : Asked) → AskedAtMost period (set ∷ []) (asked_for_each period (take i sets) n) m → AskedAtMost period sets n m
  one_more n m h = elim h.is [
    | inl is ↦ by h.many is
    | inr last ↦ untold h.many last.0 last.1
  ]
    where
      by : (k : ℕ) → m ≡ asked_for_each period (take k (set ∷ [])) (asked_for_each period (take i sets) n) → AskedAtMost period sets n m
      by zero is = record { many = i; is = inl is }
      by (suc k) is = record {
        many = i + 1;
        is = inl (is ∙ (ap (λ (xs : List (List Record)). asked_for_each period xs (asked_to_sign period set (asked_for_each period (take i sets) n))) (take_none k) ∙ more_of n));
      }

      untold : (k : ℕ) → k < 1 → m ≡ asked_untold (asked_for_each period (take k (set ∷ [])) (asked_for_each period (take i sets) n)) → AskedAtMost period sets n m
      untold zero few is = record { many = i; is = inr (lt, is) }
      untold (suc k) few is = absurd (omega (arith, few))

  -- and once at most for a set that wasn't signed
  pub set_in_vain : (old mid new : List Asked) → AreAsked period (take i sets) old mid → AreAskedAtMost period (set ∷ []) mid new → AreAskedAtMost period sets old new
  set_in_vain old mid new is most = each old new (subst (λ (ms : List Asked). AreAskedAtMost period (set ∷ []) ms new) is most)
    where
      each : (ns ms : List Asked) → AreAskedAtMost period (set ∷ []) (map (asked_for_each period (take i sets)) ns) ms → AreAskedAtMost period sets ns ms
      each [] [] h = tt
      each [] (m ∷ ms) h = absurd h
      each (n ∷ ns) [] h = absurd h
      each (n ∷ ns) (m ∷ ms) h = (one_more n m h.0, each ns ms h.1)

-- each was asked for all, and so for no more
pub asked_at_most : (period : Period) (sets : List (List Record)) (old new : List Asked) → AreAsked period sets old new → AreAskedAtMost period sets old new
asked_at_most period sets old new is = subst (λ (ms : List Asked). AreAskedAtMost period sets old ms) (sym is) (each old)
  where
    each : (ns : List Asked) → AreAskedAtMost period sets ns (map (asked_for_each period sets) ns)
    each [] = tt
    each (n ∷ ns) = (record { many = length sets; is = inl (ap (λ (xs : List (List Record)). asked_for_each period xs n) (sym (take_most sets (length sets) (omega arith)))) }, each ns)

-- ---- and what is answered

-- a result that is this error
pub asks_as : {T : Type 0} (period : Period) (sets : List (List Record)) (old new : List Asked) (r : Result T SignError) (e : SignError) → r ≡ Err e → AreAskedAtMost period sets old new
    → AskSignings period sets old new r
asks_as period sets old new r e is most = subst (λ (x : Result _ SignError). AskSignings period sets old new x) (sym is) most

-- signing is refused before any was asked
pub refused_unasked : {T : Type 0} (period : Period) (sets : List (List Record)) (ns : List Asked) (r : Result T SigningError) (e : SigningError) → r ≡ Err e → AskRefusals period sets ns ns r
refused_unasked {T = T} period sets ns r e is = subst (λ (x : Result T SigningError). AskRefusals period sets ns ns x) (sym is) (for T e)
  where
    for : (T : Type 0) (x : SigningError) → AskRefusals {T = T} period sets ns ns (Err x)
    for T (signing.SigningError x) = none_at_most period sets ns
    for T signing.OutOfMemory = none_at_most period sets ns
    for T signing.NoSignatureValidityPeriodProvided = refl
    for T signing.SoaRecordCouldNotBeDetermined = refl
    for T signing.EmptyRecordSlice = refl
    for T signing.MultipleTtlValues = refl
    for T signing.RrsigRrsMustNotBeSigned = refl
    for T (signing.InvalidSignatureValidityPeriod i x) = refl
    for T (signing.Nsec3HashingError x) = refl

-- or for a signer's error
pub refused_asked : {T : Type 0} (period : Period) (sets : List (List Record)) (old new : List Asked) (r : Result T SigningError) (e : SignError) → r ≡ Err (of_sign_error e)
    → AreAskedAtMost period sets old new → AskRefusals period sets old new r
refused_asked {T = T} period sets old new r e is most = subst (λ (x : Result T SigningError). AskRefusals period sets old new x) (sym is) (for T e)
  where
    for : (T : Type 0) (x : SignError) → AskRefusals {T = T} period sets old new (Err (of_sign_error x))
    for T sign.Failed = most
    for T sign.NoMemory = most

-- Reading a name on the wire: what is read is what is written, and each error says what the octets are.
use Rattle.std.proofs.Common.{◌≡◌, ℕ, zero, suc, ◌<◌, ◌≤◌, List, [], ◌∷◌, ◌++◌, length, take, drop, refl, sym, ap, ◌∙◌, subst, arith, length-append, length-drop, append_assoc, take-append-drop}
use Rattle.std.specs.Prelude.{All, Bool, true, false, ◌||◌, Option, Some, None, nat_lt, if◌then◌else◌}
use Rattle.std.specs.Option.{option_map}
use Rattle.std.specs.List.{list_any}
use Rattle.std.proofs.Math.Seq.{take-append_seam, drop-append_seam}
use Rattle.std.proofs.lemmas.List.{length-take-le}
use Rattle.std.proofs.lemmas.List.Elements.{All-cons, All-head, All-tail, All-nil}
use Rattle.std.proofs.lemmas.Bool.Decides.{nat_tests}
use Rattle.dsec_spec.specs.Names.{Labels, wire_octets, wire_length}
use Rattle.dsec_spec.specs.Reading.{◌>>=◌}
use Rattle.dsec_name.specs.Errors.{is_long}
use Rattle.dsec_name.specs.Keys.{labels_octets}
use Rattle.dsec_name.proofs.NameParts.{length-octets}
use Rattle.dsec_name.specs.Wire.{IsOnWire, root_before, wire_labels_within, wire_labels}

not_below : (a b : ℕ) → b ≤ a → nat_lt a b ≡ false
not_below a b h = grind (arith, nat_tests)

is_below : (a b : ℕ) → a < b → nat_lt a b ≡ true
is_below a b h = grind (arith, nat_tests)

not_short : (a b : ℕ) → nat_lt a b ≡ false → b ≤ a
not_short a b h = grind (arith, nat_tests)

cons_same : (a b : ℕ) (xs ys : List ℕ) → a ≡ b → xs ≡ ys → a ∷ xs ≡ b ∷ ys
cons_same a b xs ys e f = cc

room : (n m : ℕ) (xs : List ℕ) → length xs ≤ n → length xs ≤ m → wire_labels_within n xs ≡ wire_labels_within m xs
room zero zero xs a b = refl
room zero (suc m) [] a b = refl
room zero (suc m) (k ∷ xs) a b = absurd (omega arith)
room (suc n) zero [] a b = refl
room (suc n) zero (k ∷ xs) a b = absurd (omega arith)
room (suc n) (suc m) [] a b = refl
room (suc n) (suc m) (zero ∷ xs) a b = refl
room (suc n) (suc m) (suc k ∷ xs) a b =
    ap (λ (read : Option Labels). if nat_lt (length xs) (suc k) then None else (read >>= λ labels. Some (take (suc k) xs ∷ labels)))
    (room n m (drop (suc k) xs) (omega (arith, length-drop (suc k) xs)) (omega (arith, length-drop (suc k) xs)))

-- a label that is there
pub wire_step : (n : ℕ) (octets : List ℕ) → 0 < n → n ≤ length octets → wire_labels (n ∷ octets) ≡ (wire_labels (drop n octets) >>= λ labels. Some (take n octets ∷ labels))
wire_step zero octets h g = absurd (omega arith)
wire_step (suc k) octets h g =
    rw (not_below (length octets) (suc k) g)
    (ap (λ (read : Option Labels). read >>= λ labels. Some (take (suc k) octets ∷ labels)) (room (length octets) (length (drop (suc k) octets)) (drop (suc k) octets) (omega (arith, length-drop (suc k) octets)) (omega arith)))

-- a label that is cut off
pub wire_short : (n : ℕ) (octets : List ℕ) → length octets < n → wire_labels (n ∷ octets) ≡ None
wire_short zero octets h = absurd (omega arith)
wire_short (suc k) octets h = rw (is_below (length octets) (suc k) h) refl

carry : (long : Bool) (label : List ℕ) (read : Option Labels) → option_map (λ labels. long || list_any is_long labels) (read >>= λ labels. Some (label ∷ labels)) ≡ option_map (λ labels. (long || is_long label) || list_any is_long labels) read
carry true label None = refl
carry true label (Some labels) = refl
carry false label None = refl
carry false label (Some labels) = refl

-- a step of the search for a long label
pub long_step : (long : Bool) (n : ℕ) (octets : List ℕ) → 0 < n → n ≤ length octets → option_map (λ labels. (long || nat_lt 63 n) || list_any is_long labels) (wire_labels (drop n octets)) ≡ option_map (λ labels. long || list_any is_long labels) (wire_labels (n ∷ octets))
long_step long n octets h g =
    let e : is_long (take n octets) ≡ nat_lt 63 n = ap (λ (x : ℕ). nat_lt 63 x) (length-take-le n octets g) in
    sym (ap (option_map (λ labels. long || list_any is_long labels)) (wire_step n octets h g)
    ∙ (carry long (take n octets) (wire_labels (drop n octets))
    ∙ ap (λ (b : Bool). option_map (λ labels. (long || b) || list_any is_long labels) (wire_labels (drop n octets))) e))

-- what is written is read
pub wire_writes : (name : Labels) → All (λ label. 0 < length label) name → wire_labels (wire_octets name) ≡ Some name
wire_writes [] h = refl
wire_writes (label ∷ name) h =
    let some = All-head (λ (x : List ℕ). 0 < length x) label name h in
    let split : wire_octets (label ∷ name) ≡ length label ∷ (label ++ wire_octets name) = ap (λ (x : List ℕ). length label ∷ x) (append_assoc label (labels_octets name) (0 ∷ [])) in
    ap wire_labels split
    ∙ (wire_step (length label) (label ++ wire_octets name) some (omega (arith, length-append label (wire_octets name)))
    ∙ rw (take-append_seam label (wire_octets name), drop-append_seam label (wire_octets name), wire_writes name (All-tail (λ (x : List ℕ). 0 < length x) label name h)) refl)

nothing_read : {X : Type 0} (name : Labels) → None ≡ Some name → X
nothing_read name e = absurd cc

first_read : (label : List ℕ) (octets : List ℕ) (read : Option Labels) (name : Labels) → 0 < length label → ((rest : Labels) → read ≡ Some rest → IsOnWire rest octets) → (read >>= λ labels. Some (label ∷ labels)) ≡ Some name → IsOnWire name (length label ∷ (label ++ octets))
first_read label octets None name h next e = nothing_read name e
first_read label octets (Some rest) name h next e =
    let n = next rest refl in
    let f : label ∷ rest ≡ name = cc in
    subst (λ (x : Labels). IsOnWire x (length label ∷ (label ++ octets))) f
    (record {
      some = All-cons (λ (x : List ℕ). 0 < length x) label rest h n.some;
      is = ap (λ (x : List ℕ). length label ∷ (label ++ x)) n.is ∙ ap (λ (x : List ℕ). length label ∷ x) (sym (append_assoc label (labels_octets rest) (0 ∷ [])));
    })

-- what is read is written
reads : (n : ℕ) (octets : List ℕ) (name : Labels) → wire_labels_within n octets ≡ Some name → IsOnWire name octets
reads zero octets name e = nothing_read name e
reads (suc n) [] name e = nothing_read name e
reads (suc n) (zero ∷ []) name e =
    let f : root_before [] ≡ Some name = e in
    let g : [] ≡ name = cc in
    subst (λ (x : Labels). IsOnWire x (0 ∷ [])) g (record { some = All-nil (λ (x : List ℕ). 0 < length x); is = refl })
reads (suc n) (zero ∷ x ∷ octets) name e = nothing_read name e
reads (suc n) (suc k ∷ octets) name e =
    elim (nat_lt (length octets) (suc k)) as (λ b. nat_lt (length octets) (suc k) ≡ b → (if b then None else (wire_labels_within n (drop (suc k) octets) >>= λ labels. Some (take (suc k) octets ∷ labels))) ≡ Some name → IsOnWire name (suc k ∷ octets)) [
      | true ↦ λ t f. nothing_read name f
      | false ↦ λ t f.
          let enough = not_short (length octets) (suc k) t in
          let long : length (take (suc k) octets) ≡ suc k = length-take-le (suc k) octets enough in
          let read = first_read (take (suc k) octets) (drop (suc k) octets) (wire_labels_within n (drop (suc k) octets)) name (omega arith) (reads n (drop (suc k) octets)) f in
          subst (λ (x : List ℕ). IsOnWire name x) (cons_same (length (take (suc k) octets)) (suc k) (take (suc k) octets ++ drop (suc k) octets) octets long (take-append-drop (suc k) octets)) read
    ] refl e

pub wire_reads : (octets : List ℕ) (name : Labels) → wire_labels octets ≡ Some name → IsOnWire name octets
wire_reads octets name e = reads (length octets) octets name e

pub wire_written : (octets : List ℕ) (name : Labels) → IsOnWire name octets → wire_labels octets ≡ Some name
wire_written octets name w = ap wire_labels w.is ∙ wire_writes name w.some

pub length-wire : (name : Labels) → length (wire_octets name) ≡ wire_length name
length-wire name = omega (arith, length-append (labels_octets name) (0 ∷ []), length-octets name)

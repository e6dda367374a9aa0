-- Readable data say one thing: what the views find in them, and back to the data.
use Rattle.std.proofs.Common.{drop_of_length-le, append_assoc, ◌^◌, subst, ◌≡◌, ℕ, ◌+◌, ◌*◌, ◌<◌, ◌≤◌, List, [], ◌∷◌, ◌++◌, length, drop, Option, Some, refl, sym, ap, ◌∙◌, arith, length-append, length-drop}
use Rattle.std.specs.Prelude.{All}
use Rattle.std.specs.Int.{w32, to_be_bytes}
use Rattle.std.proofs.lemmas.List.{append-nil, drop-drop, drop_at}
use Rattle.std.proofs.lemmas.List.Elements.{All-drop}
use Rattle.std.proofs.lemmas.Option.{same_Some}
use Rattle.dsec_spec.specs.Reading.{◌>>=◌, u16_in, u16_at, u32_in, u32_at}
use Rattle.dsec_spec.specs.Names.{Labels, wire_octets}
use Rattle.dsec_spec.specs.Numbers.{CNAME, DNAME, SOA, DS, NSEC, NSEC3, NSEC3PARAM}
use Rattle.dsec_spec.specs.Layouts.{Field, lowered_name, kept_name, octets, string, bitmap, rest}
use Rattle.dsec_spec.specs.RecordData.{Part, lowered, kept, plain, IsReadable, octets_in, name_in, part_in, parts_in}
use Rattle.dsec_spec.specs.Records.{Ds, ds_of}
use Rattle.dsec_spec.specs.RecordViews.{text_in, target_of, Soa, soa_octets, soa_of, Nsec, nsec_octets, nsec_of, Hashing, hashing_octets, hashing_in, nsec3param_of, Nsec3, nsec3_octets, nsec3_of, EdnsOption, option_octets, option_in}
use Rattle.dsec_spec.proofs.ReadingLemmas.{from_bind, read_as}
use Rattle.dsec_spec.proofs.RecordDataLemmas.{parts_of-readable}
use Rattle.dsec_spec.proofs.RrsigLemmas.{two_again, two_high, two_low, four_first, four_second, four_third, four_last}
use Rattle.dsec_spec.proofs.WireNameLemmas.{octets_in-append, from_octets_in, from_name_in}

-- fields that were read: the first, and then the others from where it ends
record ReadFirst {A : Type 0} (read : List ℕ → Option (A × List ℕ)) (fields : List Field) (x : List ℕ) : Type 0 where
  first : A × List ℕ
  is : read x ≡ Some first
  parts : List Part
  others : parts_in fields first.1 ≡ Some parts

-- what a field's part is made of is read first
first_read : {A : Type 0} (read : List ℕ → Option (A × List ℕ)) (part : A × List ℕ → Part × List ℕ) (field : Field) (fields : List Field) (x : List ℕ) (parts : List Part)
    → ((a : A × List ℕ) → (part a).1 ≡ a.1) → part_in field x ≡ (read x >>= λ a. Some (part a)) → parts_in (field ∷ fields) x ≡ Some parts → ReadFirst read fields x
unfolding parts_in
first_read read part field fields x parts same by e =
    let b = from_bind (part_in field x) _ _ e in
    let others = from_bind (parts_in fields b.0.1) _ _ b.2 in
    let a = from_bind (read x) (λ a. Some (part a)) b.0 (sym by ∙ b.1) in
    record {
      first = a.0;
      is = a.1;
      parts = others.0;
      others = ap (parts_in fields) (sym (same a.0) ∙ ap (λ (p : Part × List ℕ). p.1) (same_Some _ _ a.2)) ∙ others.1;
    }

lowered_first : (fields : List Field) (x : List ℕ) (parts : List Part) → parts_in (lowered_name ∷ fields) x ≡ Some parts → ReadFirst name_in fields x
lowered_first fields x parts e = first_read name_in (λ name. (lowered name.0, name.1)) lowered_name fields x parts (λ a. refl) refl e

kept_first : (fields : List Field) (x : List ℕ) (parts : List Part) → parts_in (kept_name ∷ fields) x ≡ Some parts → ReadFirst name_in fields x
kept_first fields x parts e = first_read name_in (λ name. (kept name.0, name.1)) kept_name fields x parts (λ a. refl) refl e

octets_first : (n : ℕ) (fields : List Field) (x : List ℕ) (parts : List Part) → parts_in (octets n ∷ fields) x ≡ Some parts → ReadFirst (octets_in n) fields x
octets_first n fields x parts e = first_read (octets_in n) (λ taken. (plain taken.0, taken.1)) (octets n) fields x parts (λ a. refl) refl e

string_first : (fields : List Field) (x : List ℕ) (parts : List Part) → parts_in (string ∷ fields) x ≡ Some parts → ReadFirst text_in fields x
unfolding parts_in
string_first fields [] parts e = absurd cc
string_first fields (size ∷ x) parts e = first_read text_in (λ text. (plain (size ∷ text.0), text.1)) string fields (size ∷ x) parts (λ a. refl) refl e

nothing_left : (x : List ℕ) (parts : List Part) → parts_in [] x ≡ Some parts → x ≡ []
unfolding parts_in
nothing_left [] parts e = refl
nothing_left (first ∷ x) parts e = absurd cc

-- a number is read where its octets are
pub number_there : (m : List ℕ) (at : ℕ) → at + 2 ≤ length m → (n : ℕ) × (u16_at m at ≡ Some n)
number_there m at fits = there (drop at m) (omega (arith, length-drop at m))
  where
    there : (x : List ℕ) → 2 ≤ length x → (n : ℕ) × (u16_in x ≡ Some n)
    there [] long = absurd (omega arith)
    there (high ∷ []) long = absurd (omega arith)
    there (high ∷ low ∷ x) long = (_, refl)

-- a number of four octets stands where there are so many
pub long_number_there : (x : List ℕ) (at : ℕ) → at + 4 ≤ length x → (n : ℕ) × (u32_at x at ≡ Some n)
long_number_there x at fits = there (drop at x) (omega (arith, length-drop at x))
  where
    there : (y : List ℕ) → 4 ≤ length y → (n : ℕ) × (u32_in y ≡ Some n)
    there [] long = absurd (omega arith)
    there (a ∷ []) long = absurd (omega arith)
    there (a ∷ b ∷ []) long = absurd (omega arith)
    there (a ∷ b ∷ c ∷ []) long = absurd (omega arith)
    there (a ∷ b ∷ c ∷ d ∷ y) long = (_, refl)

-- a name alone
name_alone : (x : List ℕ) (parts : List Part) → parts_in (lowered_name ∷ []) x ≡ Some parts → (name : Labels) × (target_of x ≡ Some name) × (wire_octets name ≡ x)
name_alone x parts e =
    let name = lowered_first [] x parts e in
    let front = from_name_in x name.first.0 name.first.1 name.is in
    let end = nothing_left name.first.1 name.parts name.others in
    (name.first.0, rw name.is refl, sym (front.1 ∙ rw end (append-nil (wire_octets name.first.0))))

-- readable data of a CNAME or a DNAME record are a name
pub target_of-cname : (x : List ℕ) → IsReadable CNAME x → (name : Labels) × (target_of x ≡ Some name)
target_of-cname x readable =
    let name = name_alone x readable.parts (parts_of-readable CNAME x readable) in
    (name.0, name.1)

pub target_of-dname : (x : List ℕ) → IsReadable DNAME x → (name : Labels) × (target_of x ≡ Some name)
target_of-dname x readable =
    let name = name_alone x readable.parts (parts_of-readable DNAME x readable) in
    (name.0, name.1)

-- and the name's octets are the data
pub wire_octets-cname : (x : List ℕ) (target : Labels) → IsReadable CNAME x → target_of x ≡ Some target → wire_octets target ≡ x
wire_octets-cname x target readable e =
    let name = name_alone x readable.parts (parts_of-readable CNAME x readable) in
    read_as (λ (n : Labels). wire_octets n ≡ x) name.0 target (sym name.1 ∙ e) name.2

pub wire_octets-dname : (x : List ℕ) (target : Labels) → IsReadable DNAME x → target_of x ≡ Some target → wire_octets target ≡ x
wire_octets-dname x target readable e =
    let name = name_alone x readable.parts (parts_of-readable DNAME x readable) in
    read_as (λ (n : Labels). wire_octets n ≡ x) name.0 target (sym name.1 ∙ e) name.2

-- a number of four octets is these octets again
long_number_again : (x : List ℕ) (n : ℕ) → All (λ o. o < 256) x → u32_in x ≡ Some n → to_be_bytes w32 n ++ drop 4 x ≡ x
long_number_again [] n small e = absurd cc
long_number_again (a ∷ []) n small e = absurd cc
long_number_again (a ∷ b ∷ []) n small e = absurd cc
long_number_again (a ∷ b ∷ c ∷ []) n small e = absurd cc
long_number_again (a ∷ b ∷ c ∷ d ∷ x) n small e =
    let ha : a < 256 = small 0 0 (omega arith) in
    let hb : b < 256 = small 1 0 (omega arith) in
    let hc : c < 256 = small 2 0 (omega arith) in
    let hd : d < 256 = small 3 0 (omega arith) in
    read_as (λ (m : ℕ). to_be_bytes w32 m ++ x ≡ a ∷ b ∷ c ∷ d ∷ x) (((a * 256 + b) * 256 + c) * 256 + d) n e
    (rw (four_first a b c d ha hb hc hd, four_second a b c d ha hb hc hd, four_third a b c d ha hb hc hd, four_last a b c d ha hb hc hd) refl)

-- octets from a place on are the number there and those after it
long_octets : (x : List ℕ) (at n : ℕ) → All (λ o. o < 256) x → u32_at x at ≡ Some n → drop at x ≡ to_be_bytes w32 n ++ drop (at + 4) x
long_octets x at n small e =
    sym (ap (λ (y : List ℕ). to_be_bytes w32 n ++ y) (sym (drop-drop 4 at x)) ∙ long_number_again (drop at x) n (All-drop (λ (o : ℕ). o < 256) at x small) e)

-- five numbers are all of 20 octets
numbers_again : (x : List ℕ) (a b c d e : ℕ) → All (λ o. o < 256) x → length x ≡ 20 → u32_at x 0 ≡ Some a → u32_at x 4 ≡ Some b → u32_at x 8 ≡ Some c → u32_at x 12 ≡ Some d → u32_at x 16 ≡ Some e
    → x ≡ to_be_bytes w32 a ++ to_be_bytes w32 b ++ to_be_bytes w32 c ++ to_be_bytes w32 d ++ to_be_bytes w32 e
numbers_again x a b c d e small n ha hb hc hd he =
    long_octets x 0 a small ha
    ∙ ap (λ (y : List ℕ). to_be_bytes w32 a ++ y) (long_octets x 4 b small hb
    ∙ ap (λ (y : List ℕ). to_be_bytes w32 b ++ y) (long_octets x 8 c small hc
    ∙ ap (λ (y : List ℕ). to_be_bytes w32 c ++ y) (long_octets x 12 d small hd
    ∙ ap (λ (y : List ℕ). to_be_bytes w32 d ++ y) (long_octets x 16 e small he
    ∙ ap (λ (y : List ℕ). to_be_bytes w32 e ++ y) (drop_of_length-le x {i = 20} (omega (arith, n)))))))

-- readable data of an SOA record are two names and 20 octets
soa_parts : (x : List ℕ) → IsReadable SOA x → (names : (Labels × List ℕ) × (Labels × List ℕ)) × (name_in x ≡ Some names.0) × (name_in names.0.1 ≡ Some names.1) × (length names.1.1 ≡ 20)
soa_parts x readable =
    let mname = lowered_first (lowered_name ∷ octets 20 ∷ []) x readable.parts (parts_of-readable SOA x readable) in
    let rname = lowered_first (octets 20 ∷ []) mname.first.1 mname.parts mname.others in
    let numbers = octets_first 20 [] rname.first.1 rname.parts rname.others in
    let front = from_octets_in 20 rname.first.1 numbers.first.0 numbers.first.1 numbers.is in
    let end = nothing_left numbers.first.1 numbers.parts numbers.others in
    ((mname.first, rname.first), mname.is, rname.is, ap length front.1 ∙ length-append numbers.first.0 numbers.first.1 ∙ rw (front.0, end) refl)

-- what follows octets is small where all is
after_small : (front x y : List ℕ) → y ≡ front ++ x → All (λ o. o < 256) y → All (λ o. o < 256) x
after_small front x y e small =
    subst (All (λ (o : ℕ). o < 256)) (ap (drop (length front)) e ∙ drop_at front x (length front) refl) (All-drop (λ (o : ℕ). o < 256) (length front) y small)

soa_read : (x : List ℕ) → IsReadable SOA x → (soa : Soa) × (soa_of x ≡ Some soa) × (All (λ o. o < 256) x → x ≡ soa_octets soa)
unfolding soa_of
soa_read x readable =
    let parts = soa_parts x readable in
    let n = parts.3 in
    let serial = long_number_there parts.0.1.1 0 (omega (arith, n)) in
    let refresh = long_number_there parts.0.1.1 4 (omega (arith, n)) in
    let retry = long_number_there parts.0.1.1 8 (omega (arith, n)) in
    let expire = long_number_there parts.0.1.1 12 (omega (arith, n)) in
    let minimum = long_number_there parts.0.1.1 16 (omega (arith, n)) in
    let mname = from_name_in x parts.0.0.0 parts.0.0.1 parts.1 in
    let rname = from_name_in parts.0.0.1 parts.0.1.0 parts.0.1.1 parts.2 in (
      record {
        mname = parts.0.0.0;
        rname = parts.0.1.0;
        serial = serial.0;
        refresh = refresh.0;
        retry = retry.0;
        expire = expire.0;
        minimum = minimum.0;
      },
      rw (parts.1, parts.2, serial.1, refresh.1, retry.1, expire.1, minimum.1) refl,
      λ small.
          let others = after_small (wire_octets parts.0.0.0) parts.0.0.1 x mname.1 small in
          let numbers = after_small (wire_octets parts.0.1.0) parts.0.1.1 parts.0.0.1 rname.1 others in
          mname.1 ∙ ap (λ (y : List ℕ). wire_octets parts.0.0.0 ++ y) (rname.1 ∙ ap (λ (y : List ℕ). wire_octets parts.0.1.0 ++ y)
          (numbers_again parts.0.1.1 serial.0 refresh.0 retry.0 expire.0 minimum.0 numbers n serial.1 refresh.1 retry.1 expire.1 minimum.1))
          ∙ sym (append_assoc (wire_octets parts.0.0.0) (wire_octets parts.0.1.0) _),
    )

pub soa_of-readable : (x : List ℕ) → IsReadable SOA x → (soa : Soa) × (soa_of x ≡ Some soa)
soa_of-readable x readable =
    let read = soa_read x readable in
    (read.0, read.1)

-- and what they say has the data as its octets
pub soa_octets-soa_of : (x : List ℕ) (soa : Soa) → IsReadable SOA x → All (λ o. o < 256) x → soa_of x ≡ Some soa → soa_octets soa ≡ x
soa_octets-soa_of x soa readable small e =
    let read = soa_read x readable in
    read_as (λ (s : Soa). soa_octets s ≡ x) read.0 soa (sym read.1 ∙ e) (sym (read.2 small))

-- readable data of a DS record have four octets or more
pub ds_of-readable : (x : List ℕ) → IsReadable DS x → (ds : Ds) × (ds_of x ≡ Some ds)
ds_of-readable x readable =
    let four = octets_first 4 (rest ∷ []) x readable.parts (parts_of-readable DS x readable) in
    let front = from_octets_in 4 x four.first.0 four.first.1 four.is in
    there x (omega (arith, ap length front.1, length-append four.first.0 four.first.1, front.0))
  where
    there : (y : List ℕ) → 4 ≤ length y → (ds : Ds) × (ds_of y ≡ Some ds)
    there [] long = absurd (omega arith)
    there (a ∷ []) long = absurd (omega arith)
    there (a ∷ b ∷ []) long = absurd (omega arith)
    there (a ∷ b ∷ c ∷ []) long = absurd (omega arith)
    there (a ∷ b ∷ c ∷ d ∷ y) long = (_, refl)

-- readable data of an NSEC record are a name and a bitmap
pub nsec_of-readable : (x : List ℕ) → IsReadable NSEC x → (nsec : Nsec) × (nsec_of x ≡ Some nsec)
nsec_of-readable x readable =
    let name = kept_first (bitmap ∷ []) x readable.parts (parts_of-readable NSEC x readable) in
    (record { next_name = name.first.0; types = name.first.1 }, rw name.is refl)

-- data that say what an NSEC record does are its octets
pub nsec_octets-nsec_of : (x : List ℕ) (nsec : Nsec) → nsec_of x ≡ Some nsec → nsec_octets nsec ≡ x
nsec_octets-nsec_of x nsec e =
    let name = from_bind (name_in x) _ _ e in
    read_as (λ (n : Nsec). nsec_octets n ≡ x) (record { next_name = name.0.0; types = name.0.1 }) nsec name.2 (sym (from_name_in x name.0.0 name.0.1 name.1).1)

-- a string is a length and its text
text_again : (x text after : List ℕ) → text_in x ≡ Some (text, after) → x ≡ length text ∷ text ++ after
text_again [] text after e = absurd cc
text_again (size ∷ x) text after e =
    let front = from_octets_in size x text after e in
    rw (front.0, front.1) refl

-- octets that say how hashes are made, and those after them
hashing_again : (x : List ℕ) (how : Hashing × List ℕ) → All (λ o. o < 256) x → hashing_in x ≡ Some how → x ≡ hashing_octets how.0 ++ how.1
hashing_again (a ∷ b ∷ c ∷ d ∷ x) how small e =
    let salt = from_bind (text_in x) _ _ e in
    let hc : c < 256 = small 2 0 (omega arith) in
    let hd : d < 256 = small 3 0 (omega arith) in
    let hashing : Hashing = record { hash_algorithm = a; flags = b; iterations = c * 256 + d; salt = salt.0.0 } in
    read_as (λ (h : Hashing × List ℕ). a ∷ b ∷ c ∷ d ∷ x ≡ hashing_octets h.0 ++ h.1) (hashing, salt.0.1) how salt.2
    (rw (two_high c d hc hd, two_low c d hc hd) (ap (λ (y : List ℕ). a ∷ b ∷ c ∷ d ∷ y) (text_again x salt.0.0 salt.0.1 salt.1)))
hashing_again _ how small e = absurd cc

-- four octets and a string say how hashes are made
hashing_first : (fields : List Field) (x : List ℕ) (parts : List Part) → parts_in (octets 4 ∷ string ∷ fields) x ≡ Some parts → ReadFirst hashing_in fields x
hashing_first fields x parts e =
    let four = octets_first 4 (string ∷ fields) x parts e in
    let salt = string_first fields four.first.1 four.parts four.others in
    let front = from_octets_in 4 x four.first.0 four.first.1 four.is in
    there x four.first.0 four.first.1 front.0 front.1 salt
  where
    there : (y front after : List ℕ) → length front ≡ 4 → y ≡ front ++ after → ReadFirst text_in fields after → ReadFirst hashing_in fields y
    there y [] after n is salt = absurd (omega (arith, n))
    there y (a ∷ []) after n is salt = absurd (omega (arith, n))
    there y (a ∷ b ∷ []) after n is salt = absurd (omega (arith, n))
    there y (a ∷ b ∷ c ∷ []) after n is salt = absurd (omega (arith, n))
    there y (a ∷ b ∷ c ∷ d ∷ []) after n is salt = record {
      first = (record { hash_algorithm = a; flags = b; iterations = c * 256 + d; salt = salt.first.0 }, salt.first.1);
      is = rw (is, salt.is) refl;
      parts = salt.parts;
      others = salt.others;
    }
    there y (a ∷ b ∷ c ∷ d ∷ e ∷ front) after n is salt = absurd (omega (arith, n))

pub nsec3param_of-readable : (x : List ℕ) → IsReadable NSEC3PARAM x → (how : Hashing) × (nsec3param_of x ≡ Some how)
nsec3param_of-readable x readable =
    let how = hashing_first [] x readable.parts (parts_of-readable NSEC3PARAM x readable) in
    (how.first.0, rw how.is refl)

-- readable data of an NSEC3 record say how hashes are made, and have a string and a bitmap
pub nsec3_of-readable : (x : List ℕ) → IsReadable NSEC3 x → (nsec3 : Nsec3) × (nsec3_of x ≡ Some nsec3)
nsec3_of-readable x readable =
    let how = hashing_first (string ∷ bitmap ∷ []) x readable.parts (parts_of-readable NSEC3 x readable) in
    let next = string_first (bitmap ∷ []) how.first.1 how.parts how.others in
    (record { hashing = how.first.0; next_owner = next.first.0; types = next.first.1 }, rw (how.is, next.is) refl)

-- and what they say has the data as its octets
pub hashing_octets-nsec3param_of : (x : List ℕ) (how : Hashing) → IsReadable NSEC3PARAM x → All (λ o. o < 256) x → nsec3param_of x ≡ Some how → hashing_octets how ≡ x
hashing_octets-nsec3param_of x how readable small e =
    let read = hashing_first [] x readable.parts (parts_of-readable NSEC3PARAM x readable) in
    let end = nothing_left read.first.1 read.parts read.others in
    let said : nsec3param_of x ≡ Some read.first.0 = rw read.is refl in
    read_as (λ (h : Hashing). hashing_octets h ≡ x) read.first.0 how (sym said ∙ e)
    (sym (hashing_again x read.first small read.is ∙ rw end (append-nil (hashing_octets read.first.0))))

-- data that say what an NSEC3 record does are its octets
pub nsec3_octets-nsec3_of : (x : List ℕ) (nsec3 : Nsec3) → All (λ o. o < 256) x → nsec3_of x ≡ Some nsec3 → nsec3_octets nsec3 ≡ x
nsec3_octets-nsec3_of x nsec3 small e =
    let how = from_bind (hashing_in x) _ _ e in
    let next = from_bind (text_in how.0.1) _ _ how.2 in
    read_as (λ (n : Nsec3). nsec3_octets n ≡ x) (record { hashing = how.0.0; next_owner = next.0.0; types = next.0.1 }) nsec3 next.2
    (sym (hashing_again x how.0 small how.1 ∙ ap (λ (y : List ℕ). hashing_octets how.0.0 ++ y) (text_again how.0.1 next.0.0 next.0.1 next.1)
    ∙ sym (append_assoc (hashing_octets how.0.0) (length next.0.0 ∷ next.0.0) next.0.1)))

-- an option in front of octets is read
pub option_in-option_octets : (option : EdnsOption) (x : List ℕ) → option.code < 2 ^ 16 → length option.octets < 2 ^ 16 → option_in (option_octets option ++ x) ≡ Some (option, x)
option_in-option_octets option x code size =
    rw (two_again option.code code, two_again (length option.octets) size, octets_in-append (length option.octets) option.octets x refl) refl

option_again : (a b c d : ℕ) (x text after : List ℕ) → a < 256 → b < 256 → c < 256 → d < 256 → length text ≡ c * 256 + d → x ≡ text ++ after
    → a ∷ b ∷ c ∷ d ∷ x ≡ option_octets (record { code = a * 256 + b; octets = text }) ++ after
option_again a b c d x text after ha hb hc hd n e =
    rw (two_high a b ha hb, two_low a b ha hb, n, two_high c d hc hd, two_low c d hc hd, e) refl

-- an option that was read stands in front of the others
pub from_option_in : (x : List ℕ) (option : EdnsOption) (after : List ℕ) → All (λ o. o < 256) x → option_in x ≡ Some (option, after) → x ≡ option_octets option ++ after
from_option_in (a ∷ b ∷ c ∷ d ∷ x) option after small e =
    let taken = from_bind (octets_in (c * 256 + d) x) _ _ e in
    let front = from_octets_in (c * 256 + d) x taken.0.0 taken.0.1 taken.1 in
    let ha : a < 256 = small 0 0 (omega arith) in
    let hb : b < 256 = small 1 0 (omega arith) in
    let hc : c < 256 = small 2 0 (omega arith) in
    let hd : d < 256 = small 3 0 (omega arith) in
    let read : EdnsOption = record { code = a * 256 + b; octets = taken.0.0 } in
    read_as (λ (r : EdnsOption × List ℕ). a ∷ b ∷ c ∷ d ∷ x ≡ option_octets r.0 ++ r.1) (read, taken.0.1) (option, after) taken.2
    (option_again a b c d x taken.0.0 taken.0.1 ha hb hc hd front.0 front.1)
from_option_in _ option after small e = absurd cc

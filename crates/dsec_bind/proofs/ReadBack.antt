-- What a key's record is displayed as is read back.
use Rattle.std.proofs.Common.{◌≡◌, ℕ, zero, suc, codes, List, [], ◌∷◌, ◌++◌, inl, inr, ◌<◌, ◌≤◌, ◌^◌, ◌+◌, ◌*◌, length, refl, sym, ap, ◌∙◌, true, Bool, arith, cond, Option, Some, None, append-nil, subst}
use Rattle.std.specs.Prelude.{All, IfSome, decimal, nat_lt, Ok, ◌⊎◌, if◌then◌else◌}
use Rattle.std.specs.List.{join_with_byte, list_all}
use Rattle.std.specs.Result.{result_ok}
use Rattle.std.specs.Str.{is_utf8}
use Rattle.std.specs.Cmp.{first_so, second_so}
use Rattle.std.proofs.lemmas.Bool.{le-leb, lt-ltb, ltb-true}
use Rattle.std.proofs.lemmas.Fmt.{decimal_is_IsNumeral}
use Rattle.std.proofs.lemmas.Str.{IsUtf8-from_ascii, is_utf8-from_IsUtf8}
use Rattle.base64.specs.Engines.{standard}
use Rattle.base64.specs.GeneralPurpose.{IsBytes, encode_of}
use Rattle.base64.proofs.EngineFacts.{decode_of-encode_of}
use Rattle.dsec_spec.specs.Names.{Labels, canonical_octets}
use Rattle.dsec_spec.specs.Numbers.{DNSKEY, IN}
use Rattle.dsec_spec.specs.Reading.{◌>>=◌}
use Rattle.dsec_spec.specs.Records.{Key, Record, key_octets, key_of}
use Rattle.dsec_spec.proofs.ReadingLemmas.{read_as}
use Rattle.dsec_spec.proofs.RecordLemmas.{key_octets-key_of}
use Rattle.dsec_name.specs.NameDisplay.{name_text}
use Rattle.dsec_name.specs.TextReading.{name_of_text}
use Rattle.dsec_word.specs.Numbers.{number_of}
use Rattle.dsec_word.specs.Words.{base64_in, class_in, name_in, number_after, rtype_in, text_of}
use Rattle.dsec_number.specs.Words.{class_words, named_of, type_words}
use Rattle.dsec_word.proofs.NumberLemmas.{number_within}
use Rattle.dsec_bind.specs.KeyDisplay.{bind_text, key_line, read_back}
use Rattle.dsec_bind.specs.KeyText.{after_type, bind_record, key_data, public_key_in}
use Rattle.dsec_bind.proofs.KeyWords.{all_small, base64_plain, decimal_plain, labels_small, name_plain, nothing_written, plain_ascii, small}
use Rattle.dsec_bind.proofs.PlainWords.{IsPlainWord, PlainWords, is_plain, line_read, line_read_open}

-- the numbers of a key are in range
pub record HasRange (key : Key) : Type 0 where
  pub flags : key.flags < 2 ^ 16
  pub protocol : key.protocol < 256
  pub algorithm : key.algorithm < 256
  pub octets : list_all small key.public_key ≡ true

number_back : (most n : ℕ) → n ≤ most → most < 2 ^ 64 → number_of most (decimal n) ≡ Some n
number_back most n l m =
    let numeral = decimal_is_IsNumeral n (omega (arith, l, m)) in
    let value = numeral.1 in
    sym (number_within (decimal n) n most ((numeral.0, omega (arith, l, m, value)), sym value) l)

text_back : (word : List ℕ) → list_all is_plain word ≡ true → text_of word ≡ Some word
text_back word plain =
    let text : is_utf8 word ≡ true = is_utf8-from_IsUtf8 word (IsUtf8-from_ascii word (plain_ascii word plain)) in
    ap (λ (t : Bool). cond t (Some word) None) text

name_back : (name : Labels) → IsPlainWord (name_text name) → name_of_text (name_text name) ≡ Ok name → name_in (name_text name) ≡ Some name
name_back name plain read = ap (λ (o : Option (List ℕ)). o >>= λ text. result_ok (name_of_text text)) (text_back (name_text name) plain.octets) ∙ ap result_ok read

class_back : class_in (codes "IN") ≡ Some IN
class_back = ap (λ (o : Option (List ℕ)). o >>= λ text. number_after (codes "CLASS") (named_of class_words text) text) (text_back (codes "IN") refl)

rtype_back : rtype_in (codes "DNSKEY") ≡ Some DNSKEY
rtype_back = ap (λ (o : Option (List ℕ)). o >>= λ text. number_after (codes "TYPE") (named_of type_words text) text) (text_back (codes "DNSKEY") refl)

after_back : (words : List (List ℕ)) → after_type (codes "IN" ∷ codes "DNSKEY" ∷ words) ≡ Some words
after_back words = rw (class_back, rtype_back) refl

bytes : (x : List ℕ) → list_all small x ≡ true → IsBytes x
bytes [] e i = omega arith
bytes (b ∷ bs) e zero = ltb-true b 256 (first_so (small b) (list_all small bs) e)
bytes (b ∷ bs) e (suc i) = bytes bs (second_so (small b) (list_all small bs) e) i

key_back : (x : List ℕ) → list_all small x ≡ true → public_key_in (encode_of standard x ∷ []) ≡ Some x
key_back x e = ap base64_in (append-nil (encode_of standard x)) ∙ ap result_ok (decode_of-encode_of standard x refl (bytes x e))

-- the words of a key's line are plain, if those behind its numbers are
words_plain : (owner : Labels) (key : Key) (words : List (List ℕ)) → IsPlainWord (name_text owner) → HasRange key → PlainWords words
    → PlainWords (name_text owner ∷ codes "IN" ∷ codes "DNSKEY" ∷ decimal key.flags ∷ decimal key.protocol ∷ decimal key.algorithm ∷ words)
words_plain owner key words name range plain =
    let f = range.flags in
    let p = range.protocol in
    let a = range.algorithm in
    let numbers : PlainWords (decimal key.flags ∷ decimal key.protocol ∷ decimal key.algorithm ∷ words) =
    (decimal_plain key.flags (omega (arith, f)), (decimal_plain key.protocol (omega (arith, p)), (decimal_plain key.algorithm (omega (arith, a)), plain))) in
    (name, (record { some = omega arith; octets = refl }, (record { some = omega arith; octets = refl }, numbers)))

data_back : (key : Key) → HasRange key → length (key_octets key) ≤ 65535
    → key_data (decimal key.flags ∷ decimal key.protocol ∷ decimal key.algorithm ∷ encode_of standard key.public_key ∷ []) ≡ Some (key_octets key)
data_back key range l =
    let f = range.flags in
    let p = range.protocol in
    let a = range.algorithm in
    rw (
      number_back 65535 key.flags (omega (arith, f)) (omega arith),
      number_back 255 key.protocol (omega (arith, p)) (omega arith),
      number_back 255 key.algorithm (omega (arith, a)) (omega arith),
      key_back key.public_key range.octets,
      le-leb (length (key_octets key)) 65535 l,
    ) refl

-- without base64 there is no key
no_data : (key : Key) → HasRange key → key_data (decimal key.flags ∷ decimal key.protocol ∷ decimal key.algorithm ∷ []) ≡ None
no_data key range =
    let f = range.flags in
    let p = range.protocol in
    let a = range.algorithm in
    rw (
      number_back 65535 key.flags (omega (arith, f)) (omega arith),
      number_back 255 key.protocol (omega (arith, p)) (omega arith),
      number_back 255 key.algorithm (omega (arith, a)) (omega arith),
    ) refl

-- a record of class IN and TTL 0
abbrev made : Labels → List ℕ → Record
made owner rdata = record { owner = owner; class = IN; rtype = DNSKEY; ttl = 0; rdata = rdata }

-- what the line of a key says, if the key has an octet
pub line_back : (owner : Labels) (key : Key) → list_all small (canonical_octets owner) ≡ true → name_of_text (name_text owner) ≡ Ok owner → HasRange key
    → 0 < length key.public_key → length (key_octets key) ≤ 65535 → bind_record (key_line owner key) ≡ Some (made owner (key_octets key))
line_back owner key octets read range some l =
    let name = name_plain owner (labels_small owner octets) in
    let numbers = decimal key.flags ∷ decimal key.protocol ∷ decimal key.algorithm ∷ encode_of standard key.public_key ∷ [] in
    let words = codes "IN" ∷ codes "DNSKEY" ∷ numbers in
    line_read (name_text owner) words (words_plain owner key (encode_of standard key.public_key ∷ []) name range (base64_plain key.public_key some range.octets, tt))
    ∙ ap (λ (o : Option Labels). o >>= λ n. after_type words >>= λ k. key_data k >>= λ rdata. Some (made n rdata)) (name_back owner name read)
    ∙ ap (λ (o : Option (List (List ℕ))). o >>= λ k. key_data k >>= λ rdata. Some (made owner rdata)) (after_back numbers)
    ∙ ap (λ (o : Option (List ℕ)). o >>= λ rdata. Some (made owner rdata)) (data_back key range l)

-- without an octet the line of a key says no record
line_refused : (owner : Labels) (key : Key) → list_all small (canonical_octets owner) ≡ true → name_of_text (name_text owner) ≡ Ok owner → HasRange key
    → key.public_key ≡ [] → bind_record (key_line owner key) ≡ None
line_refused owner key octets read range none =
    let name = name_plain owner (labels_small owner octets) in
    let numbers = decimal key.flags ∷ decimal key.protocol ∷ decimal key.algorithm ∷ [] in
    let words = codes "IN" ∷ codes "DNSKEY" ∷ numbers in
    ap (λ (x : List ℕ). bind_record (key_line owner (record key { public_key = x }))) none
    ∙ ap (λ (word : List ℕ). bind_record (join_with_byte 32 (name_text owner ∷ codes "IN" ∷ codes "DNSKEY" ∷ decimal key.flags ∷ decimal key.protocol ∷ decimal key.algorithm ∷ word ∷ []) ++ 10 ∷ [])) nothing_written
    ∙ line_read_open (name_text owner) words (words_plain owner key [] name range tt)
    ∙ ap (λ (o : Option Labels). o >>= λ n. after_type words >>= λ k. key_data k >>= λ rdata. Some (made n rdata)) (name_back owner name read)
    ∙ ap (λ (o : Option (List (List ℕ))). o >>= λ k. key_data k >>= λ rdata. Some (made owner rdata)) (after_back numbers)
    ∙ ap (λ (o : Option (List ℕ)). o >>= λ rdata. Some (made owner rdata)) (no_data key range)

-- the key of a record's data, which are octets, is in range
key_range : (rdata : List ℕ) (key : Key) → list_all small rdata ≡ true → key_of rdata ≡ Some key → HasRange key
key_range (a ∷ b ∷ c ∷ d ∷ x) key e says =
    let more = second_so (small a) (list_all small (b ∷ c ∷ d ∷ x)) e in
    let third = second_so (small b) (list_all small (c ∷ d ∷ x)) more in
    let last = second_so (small c) (list_all small (d ∷ x)) third in
    let la : a < 256 = ltb-true a 256 (first_so (small a) (list_all small (b ∷ c ∷ d ∷ x)) e) in
    let lb : b < 256 = ltb-true b 256 (first_so (small b) (list_all small (c ∷ d ∷ x)) more) in
    let lc : c < 256 = ltb-true c 256 (first_so (small c) (list_all small (d ∷ x)) third) in
    let ld : d < 256 = ltb-true d 256 (first_so (small d) (list_all small x) last) in
    read_as HasRange (record { flags = a * 256 + b; protocol = c; algorithm = d; public_key = x }) key says (record {
      flags = omega (arith, la, lb);
      protocol = lc;
      algorithm = ld;
      octets = second_so (small d) (list_all small x) last;
    })
key_range _ key e says = absurd cc

-- a list has an item, or none
some_or_none : (x : List ℕ) → (x ≡ []) ⊎ (0 < length x)
some_or_none [] = inl refl
some_or_none (b ∷ bs) = inr (omega arith)

-- what a record is displayed as says the record with TTL 0, or is refused, where its key has no octet
pub record_back : (it : Record) → All (λ octet. octet < 256) (canonical_octets it.owner) → All (λ octet. octet < 256) it.rdata → name_of_text (name_text it.owner) ≡ Ok it.owner
    → it.class ≡ IN → it.rtype ≡ DNSKEY → length it.rdata ≤ 65535 → IfSome (bind_text it) (λ text. bind_record text ≡ read_back it)
record_back it owner octets read class rtype most = by (key_of it.rdata) refl
  where
    by_key : (key : Key) → key_of it.rdata ≡ Some key → (key.public_key ≡ []) ⊎ (0 < length key.public_key) → bind_record (key_line it.owner key) ≡ read_back it
    by_key key e (inl none) =
        let same : key_octets key ≡ it.rdata = key_octets-key_of it.rdata key octets e in
        let size : length it.rdata ≡ 4 = sym (ap length same) ∙ ap (λ (x : List ℕ). length (key_octets (record key { public_key = x }))) none in
        line_refused it.owner key (all_small (canonical_octets it.owner) owner) read (key_range it.rdata key (all_small it.rdata octets) e) none
        ∙ sym (ap (λ (n : ℕ). if nat_lt 4 n then Some (record it { ttl = 0 }) else None) size)
    by_key key e (inr some) =
        let same : key_octets key ≡ it.rdata = key_octets-key_of it.rdata key octets e in
        let l : length (key_octets key) ≤ 65535 = subst (λ (x : List ℕ). length x ≤ 65535) (sym same) most in
        let whole : length (key_octets key) ≡ suc (suc (suc (suc (length key.public_key)))) = refl in
        let size = ap length same in
        let longer : 4 < length it.rdata = omega (arith, size, whole, some) in
        line_back it.owner key (all_small (canonical_octets it.owner) owner) read (key_range it.rdata key (all_small it.rdata octets) e) some l
        ∙ (λ i. Some (record { owner = it.owner; class = sym class i; rtype = sym rtype i; ttl = 0; rdata = same i }))
        ∙ sym (ap (λ (t : Bool). if t then Some (record it { ttl = 0 }) else None) (lt-ltb 4 (length it.rdata) longer))

    by : (o : Option Key) → key_of it.rdata ≡ o → IfSome (o >>= λ key. Some (key_line it.owner key)) (λ text. bind_record text ≡ read_back it)
    by None e = tt
    by (Some key) e = by_key key e (some_or_none key.public_key)

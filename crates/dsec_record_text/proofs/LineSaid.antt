-- What the line of a record says, under any setting.
use Rattle.std.proofs.Common.{◌≡◌, ℕ, List, [], ◌∷◌, ◌++◌, ◌<◌, ◌≤◌, ◌^◌, length, refl, sym, ap, ◌∙◌, arith, Bool, false, codes, Option, Some, None, append-nil, append_assoc, inl}
use Rattle.std.specs.Prelude.{All, decimal, ◌==◌, if◌then◌else◌}
use Rattle.std.specs.Option.{option_map}
use Rattle.std.specs.Result.{result_ok}
use Rattle.std.proofs.lemmas.Fmt.{decimal_is_IsNumeral}
use Rattle.std.proofs.lemmas.Bool.Decides.{nat_tests}
use Rattle.std.proofs.lemmas.Grind.{common_steps}
use Rattle.hex.specs.Hex.{encode_lower}
use Rattle.hex.proofs.HexLemmas.{decode_of-encode_lower}
use Rattle.dsec_spec.specs.Reading.{◌>>=◌}
use Rattle.dsec_spec.specs.Names.{Labels}
use Rattle.dsec_spec.specs.Records.{Record}
use Rattle.dsec_spec.specs.RecordData.{IsReadable}
use Rattle.dsec_number.specs.Words.{class_words, named_of, type_words}
use Rattle.dsec_name.specs.NameDisplay.{name_text}
use Rattle.dsec_text.specs.Escapes.WritesOctet.{escaped}
use Rattle.dsec_text.specs.Escapes.WritesOctets.{none, more}
use Rattle.dsec_text.specs.Lines.{begins_with_blank}
use Rattle.dsec_text.specs.Words.{Word, plain_of, words_of}
use Rattle.dsec_word.specs.Numbers.{number_of}
use Rattle.dsec_word.specs.Words as plain
use Rattle.dsec_word.proofs.NumberLemmas.{number_within}
use Rattle.dsec_zonefile.specs.Data.{data_in, generic_in, is_readable, readable}
use Rattle.dsec_zonefile.specs.Lines.{control_in, said_by, said_in}
use Rattle.dsec_zonefile.specs.Records.{late_ttl, optional, record_in, taken, ttl_and_class_in, typed_in}
use Rattle.dsec_zonefile.specs.Words.{class_in, hex_of, joined, number_in, rtype_in, ttl_in}
use Rattle.dsec_zonefile.specs.declared.entry.Entry.TheVariants as entries
use Rattle.dsec_zonefile.specs.declared.setting.Setting.{Setting}
use Rattle.dsec_zonefile.specs.declared.setting.Said.TheVariants as said
use Rattle.dsec_zonefile.proofs.DataWords.{test_of_readable}
use Rattle.dsec_record_text.specs.RecordText.{IsWritable, line_data, line_head, record_line}
use Rattle.dsec_record_text.proofs.PlainWords.{IsWord, bare, bytes, class_word, decimal_word, hex_shown, plain_back, plain_word, text_back, type_word}
use Rattle.dsec_record_text.proofs.OwnerWord.{begins_no_dollar, first_no_blank, name_first, owner_back, owner_word}
use Rattle.dsec_record_text.proofs.LineText.{AreWords, last_words, line_of, line_words, spaced}

-- ---- single words

number_back : (most n : ℕ) → n ≤ most → most < 2 ^ 64 → number_of most (decimal n) ≡ Some n
number_back most n l m =
    let numeral = decimal_is_IsNumeral n (omega (arith, l, m)) in
    let value = numeral.1 in
    sym (number_within (decimal n) n most ((numeral.0, omega (arith, l, m, value)), sym value) l)

decimal_back : (most n : ℕ) → n ≤ most → most < 2 ^ 64 → number_in most (bare (decimal n)) ≡ Some n
decimal_back most n l m =
    ap (λ (o : Option (List ℕ)). o >>= number_of most) (plain_back (decimal n) (decimal_word n (omega (arith, l, m))).octets) ∙ number_back most n l m

class_back : (n : ℕ) → n < 2 ^ 16 → class_in (bare (codes "CLASS" ++ decimal n)) ≡ Some n
class_back n l =
    let word = codes "CLASS" ++ decimal n in
    let shown = (class_word n (omega (arith, l))).octets in
    ap (λ (o : Option (List ℕ)). o >>= plain.class_in) (plain_back word shown)
    ∙ ap (λ (o : Option (List ℕ)). o >>= λ text. plain.number_after (codes "CLASS") (named_of class_words text) text) (text_back word shown)
    ∙ number_back 65535 n (omega (arith, l)) (omega arith)

rtype_back : (n : ℕ) → n < 2 ^ 16 → rtype_in (bare (codes "TYPE" ++ decimal n)) ≡ Some n
rtype_back n l =
    let word = codes "TYPE" ++ decimal n in
    let shown = (type_word n (omega (arith, l))).octets in
    ap (λ (o : Option (List ℕ)). o >>= plain.rtype_in) (plain_back word shown)
    ∙ ap (λ (o : Option (List ℕ)). o >>= λ text. plain.number_after (codes "TYPE") (named_of type_words text) text) (text_back word shown)
    ∙ number_back 65535 n (omega (arith, l)) (omega arith)

-- hex words, none where there is no octet
joined_last : (word : List ℕ) → plain_of (bare word) ≡ Some word → joined plain_of (last_words word) ≡ Some word
joined_last [] e = refl
joined_last (c ∷ cs) e = ap (λ (o : Option (List ℕ)). o >>= λ first. Some (first ++ [])) e ∙ ap Some (append-nil (c ∷ cs))

hex_back : (x : List ℕ) → All (λ octet. octet < 256) x → hex_of (last_words (encode_lower x)) ≡ Some x
hex_back x h =
    ap (λ (o : Option (List ℕ)). o >>= plain.hex_in) (joined_last (encode_lower x) (plain_back (encode_lower x) (hex_shown x (bytes x h))))
    ∙ ap result_ok (decode_of-encode_lower x (bytes x h))

same_length : (n : ℕ) (x : List ℕ) → n ≡ length x → (if length x == n then Some x else None) ≡ Some x
same_length n x e = grind (arith, common_steps, nat_tests)

generic_back : (x : List ℕ) → All (λ octet. octet < 256) x → length x ≤ 65535 → generic_in (bare (decimal (length x)) ∷ last_words (encode_lower x)) ≡ Some x
generic_back x h l =
    ap (λ (o : Option ℕ). o >>= λ n. hex_of (last_words (encode_lower x)) >>= λ octets. if length octets == n then Some octets else None) (decimal_back 65535 (length x) l (omega arith))
    ∙ ap (λ (o : Option (List ℕ)). o >>= λ octets. if length octets == length x then Some octets else None) (hex_back x h)
    ∙ same_length (length x) x refl

-- the words of the data
abbrev data_words : List ℕ → List Word
data_words x = bare (92 ∷ 35 ∷ []) ∷ bare (decimal (length x)) ∷ last_words (encode_lower x)

data_back : (origin : Labels) (rtype : ℕ) (x : List ℕ) → All (λ octet. octet < 256) x → IsReadable rtype x → data_in origin rtype (data_words x) ≡ Some x
data_back origin rtype x h readable =
    ap (λ (o : Option (List ℕ)). o >>= λ rdata. if is_readable rtype rdata then Some rdata else None) (generic_back x h readable.at_most)
    ∙ ap (λ (t : Bool). if t then Some x else None) (test_of_readable rtype x readable)

-- ---- the words of a line

abbrev typed_words : Record → List Word
typed_words r = bare (codes "TYPE" ++ decimal r.rtype) ∷ data_words r.rdata

front_back : (r : Record) → IsWritable r → ttl_and_class_in (bare (decimal r.ttl) ∷ bare (codes "CLASS" ++ decimal r.class) ∷ typed_words r) ≡ (Some r.ttl, Some r.class, typed_words r)
front_back r h =
    let ttl = h.ttl in
    let read : optional ttl_in (bare (decimal r.ttl) ∷ bare (codes "CLASS" ++ decimal r.class) ∷ typed_words r) ≡ (Some r.ttl, bare (codes "CLASS" ++ decimal r.class) ∷ typed_words r) =
    ap (λ (o : Option ℕ). taken o (bare (decimal r.ttl)) (bare (codes "CLASS" ++ decimal r.class) ∷ typed_words r)) (decimal_back 4294967295 r.ttl (omega (arith, ttl)) (omega arith)) in
    let class : optional class_in (bare (codes "CLASS" ++ decimal r.class) ∷ typed_words r) ≡ (Some r.class, typed_words r) =
    ap (λ (o : Option ℕ). taken o (bare (codes "CLASS" ++ decimal r.class)) (typed_words r)) (class_back r.class h.class) in
    ap (λ (f : Option ℕ × List Word). late_ttl f.0 (optional class_in f.1)) read
    ∙ ap (late_ttl (Some r.ttl)) class

typed_back : (setting : Setting) (r : Record) → IsWritable r → typed_in setting r.owner (Some r.ttl) (Some r.class) (typed_words r) ≡ Some r
typed_back setting r h =
    ap (λ (o : Option ℕ). o >>= λ rtype. data_in setting.origin rtype (data_words r.rdata) >>= λ rdata. Some (record { owner = r.owner; class = r.class; rtype = rtype; ttl = r.ttl; rdata = rdata })) (rtype_back r.rtype h.rtype)
    ∙ ap (λ (o : Option (List ℕ)). o >>= λ rdata. Some (record { owner = r.owner; class = r.class; rtype = r.rtype; ttl = r.ttl; rdata = rdata })) (data_back setting.origin r.rtype r.rdata h.octets h.readable)

abbrev pub all_words : Record → List Word
all_words r = bare (name_text r.owner) ∷ bare (decimal r.ttl) ∷ bare (codes "CLASS" ++ decimal r.class) ∷ typed_words r

abbrev with_words : List Word → Option Labels → Option (Labels × List Word)
with_words words o = o >>= λ owner. Some (owner, words)

words_say : (setting : Setting) (r : Record) → IsWritable r → record_in setting false (all_words r) ≡ Some r
words_say setting r h =
    let after = bare (decimal r.ttl) ∷ bare (codes "CLASS" ++ decimal r.class) ∷ typed_words r in
    ap (λ (o : Option Labels). with_words after o >>= λ (owner : Labels × List Word). typed_in setting owner.0 (ttl_and_class_in owner.1).0 (ttl_and_class_in owner.1).1 (ttl_and_class_in owner.1).2)
    (owner_back setting.origin r.owner (h.name setting.origin))
    ∙ ap (λ (front : Option ℕ × Option ℕ × List Word). typed_in setting r.owner front.0 front.1 front.2) (front_back r h)
    ∙ typed_back setting r h

-- ---- the line

-- the words of a record's line but the last, which is the data in hex
abbrev pub front_words : Record → List (List ℕ)
front_words r =
    name_text r.owner ∷ decimal r.ttl ∷ (codes "CLASS" ++ decimal r.class) ∷ (codes "TYPE" ++ decimal r.rtype) ∷ (92 ∷ 35 ∷ []) ∷ decimal (length r.rdata) ∷ []

-- the line by its words
abbrev pub worded_line : Record → List ℕ
worded_line r = line_of (front_words r) (encode_lower r.rdata)

pieces : (a b c d n x : List ℕ) → (a ++ codes " " ++ b ++ codes " CLASS" ++ c ++ codes " TYPE" ++ d) ++ (codes " \\# " ++ n ++ codes " " ++ x) ++ 10 ∷ []
    ≡ spaced (a ∷ b ∷ (codes "CLASS" ++ c) ∷ (codes "TYPE" ++ d) ∷ (92 ∷ 35 ∷ []) ∷ n ∷ []) (x ++ 10 ∷ [])
pieces a b c d n x = simp append_assoc refl

pub line_is : (r : Record) → record_line r ≡ worded_line r
unfolding line_head line_data
line_is r = pieces (name_text r.owner) (decimal r.ttl) (decimal r.class) (decimal r.rtype) (decimal (length r.rdata)) (encode_lower r.rdata)

mark_word : IsWord (92 ∷ 35 ∷ [])
mark_word = record { octets = 35 ∷ []; some = omega arith; writes = more 35 [] (92 ∷ 35 ∷ []) [] (escaped 35 (inl (omega arith)) (λ e. omega (arith, e))) none }

pub front_are_words : (r : Record) → IsWritable r → AreWords (front_words r)
front_are_words r h =
    let ttl = h.ttl in
    let class = h.class in
    let rtype = h.rtype in
    let most = h.readable.at_most in
    (owner_word r.owner h.owner, (plain_word _ (decimal_word r.ttl (omega (arith, ttl))), (plain_word _ (class_word r.class (omega (arith, class))), (plain_word _ (type_word r.rtype (omega (arith, rtype))), (mark_word, (plain_word _ (decimal_word (length r.rdata) (omega (arith, most))), tt))))))

pub last_is_word : (r : Record) → IsWritable r → 0 < length (encode_lower r.rdata) → IsWord (encode_lower r.rdata)
last_is_word r h some = plain_word (encode_lower r.rdata) (record { some = some; octets = hex_shown r.rdata (bytes r.rdata h.octets) })

pub words_are : (r : Record) → IsWritable r → words_of (worded_line r) ≡ all_words r
words_are r h = line_words (front_words r) (encode_lower r.rdata) (front_are_words r h) (last_is_word r h)

line_no_blank : (r : Record) → begins_with_blank (worded_line r) ≡ false
line_no_blank r =
    let first = name_first r.owner in
    ap (λ (owner : List ℕ). begins_with_blank (owner ++ 32 ∷ spaced (decimal r.ttl ∷ (codes "CLASS" ++ decimal r.class) ∷ (codes "TYPE" ++ decimal r.rtype) ∷ (92 ∷ 35 ∷ []) ∷ decimal (length r.rdata) ∷ []) (encode_lower r.rdata ++ 10 ∷ []))) first.is
    ∙ first_no_blank (name_text r.owner) first

-- under any setting the line of a record says the record
pub line_says : (setting : Setting) (r : Record) → IsWritable r → said_in setting (worded_line r) ≡ Some (said.Entry (entries.Record r))
line_says setting r h =
    ap (λ (t : Bool). said_by setting t (words_of (worded_line r))) (line_no_blank r)
    ∙ ap (said_by setting false) (words_are r h)
    ∙ ap (λ (t : Bool). if t then control_in setting (name_text r.owner) (bare (decimal r.ttl) ∷ bare (codes "CLASS" ++ decimal r.class) ∷ typed_words r) else option_map (λ it. said.Entry (entries.Record it)) (record_in setting false (all_words r))) (begins_no_dollar (name_text r.owner) (name_first r.owner))
    ∙ ap (option_map (λ it. said.Entry (entries.Record it))) (words_say setting r h)

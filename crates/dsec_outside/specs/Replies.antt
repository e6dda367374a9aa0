-- The replies that are kept, as a table; and the laws of a question that is looked for.
use Rattle.std.specs.Prelude.{◌≡◌, ℕ, ◌==◌, ◌&&◌, Bool, List, ◌∷◌, ◌++◌, map, Option, Vec, IsTrue}
use Rattle.std.specs.Option.{option_map}
use Rattle.std.specs.Hash.{u16}
use Rattle.std.specs.Cmp.{first_so, second_so, nat_eq_equiv}
use Rattle.std.specs.declared.alloc.Global.{Global}
use Rattle.std.proofs.lemmas.Bool.{eqb-true}
use Rattle.dsec_name.specs.NameLaws.{name_eq_equiv, name_hash_respects}
use Rattle.dsec_name.specs.Parts.{same_name}
use Rattle.dsec_spec.specs.Names.{canonical_octets}
use Rattle.dsec_spec.specs.Outside.{Entry, Table}
use Rattle.dsec_outside.specs.declared.replies.Asked.{Asked}
use Rattle.dsec_outside.specs.declared.replies.Question.{Question}

-- the octets of a reply
abbrev pub kept_reply : Option (Vec ℕ Global) → Option (List ℕ)
kept_reply reply = option_map (λ octets. octets.items) reply

-- a question and its reply as an entry
abbrev pub entry_of : Question × Option (Vec ℕ Global) → Entry
entry_of kept = record { name = kept.0.name; rtype = kept.0.rtype; reply = kept_reply kept.1 }

-- questions and their replies as a table
abbrev pub table_of : List (Question × Option (Vec ℕ Global)) → Table
table_of entries = map entry_of entries

-- whether two questions are of one name and type
abbrev pub equals : Question → Question → Bool
equals x y = same_name x.name y.name && (x.rtype == y.rtype)

-- whether a question is the one that is looked for
abbrev pub is_asked : Asked → Question → Bool
is_asked asked question = same_name asked.name.now question.name && (asked.rtype == question.rtype)

-- it is hashed as the one that is looked for
pub asked_hash : (asked : Asked) (question : Question) → IsTrue (is_asked asked question) → canonical_octets asked.name.now ∷ u16 asked.rtype ≡ canonical_octets question.name ∷ u16 question.rtype
asked_hash asked question h =
    let p = name_hash_respects asked.name.now question.name (first_so _ _ h) in
    let r = eqb-true asked.rtype question.rtype (second_so (same_name asked.name.now question.name) _ h) in
    λ i. p i ++ u16 (r i)

-- and any other question is that one as far as the two are equal
pub asked_eq : (asked : Asked) (x y : Question) → IsTrue (is_asked asked x) → is_asked asked y ≡ equals x y
asked_eq asked x y h =
    let p = name_eq_equiv.congr asked.name.now x.name y.name (first_so _ _ h) in
    let r = nat_eq_equiv.congr asked.rtype x.rtype y.rtype (second_so (same_name asked.name.now x.name) _ h) in
    λ i. p i && r i

-- Records in zone text: owner, TTL and class, type, data (RFC 1035 5.1).
use Rattle.std.specs.Prelude.{ℕ, List, [], ◌∷◌, Bool, true, false, Option, Some, None}
use Rattle.dsec_spec.specs.Reading.{◌>>=◌}
use Rattle.dsec_spec.specs.Names.{Labels}
use Rattle.dsec_spec.specs.Records.{Record}
use Rattle.dsec_text.specs.Words.{Word}
use Rattle.dsec_zonefile.specs.Data.{data_in}
use Rattle.dsec_zonefile.specs.Setting.{class_for, ttl_for}
use Rattle.dsec_zonefile.specs.Words.{class_in, name_in, rtype_in, ttl_in}
use Rattle.dsec_zonefile.specs.declared.setting.Before.{Before}
use Rattle.dsec_zonefile.specs.declared.setting.Setting.{Setting}

-- the owner of the record before, if there is one, and the words
abbrev pub same_owner : Option Before → List Word → Option (Labels × List Word)
same_owner None words = None
same_owner (Some before) words = Some (before.owner, words)

-- the owner, and the words after it: that of the record before where the line begins with a blank, else the first word
abbrev pub owner_in : Setting → Bool → List Word → Option (Labels × List Word)
owner_in setting true words = same_owner setting.before words
owner_in setting false [] = None
owner_in setting false (word ∷ words) = do
  owner ← name_in setting.origin word
  Some (owner, words)

-- a word that says something is taken, and any other stays
abbrev pub taken : Option ℕ → Word → List Word → Option ℕ × List Word
taken None word words = (None, word ∷ words)
taken (Some number) word words = (Some number, words)

-- what the first word says, if it says something, and the words after it
abbrev pub optional : (Word → Option ℕ) → List Word → Option ℕ × List Word
optional read [] = (None, [])
optional read (word ∷ words) = taken (read word) word words

-- a TTL after the class, where there was none before it
abbrev pub late_ttl : Option ℕ → Option ℕ × List Word → Option ℕ × Option ℕ × List Word
late_ttl (Some ttl) found = (Some ttl, found.0, found.1)
late_ttl None found = ((optional ttl_in found.1).0, found.0, (optional ttl_in found.1).1)

-- TTL and class, in either order, each at most once, and the words after them
abbrev pub ttl_and_class_in : List Word → Option ℕ × Option ℕ × List Word
ttl_and_class_in words = late_ttl (optional ttl_in words).0 (optional class_in (optional ttl_in words).1)

-- a record of this owner, TTL and class, by the words from the type on
abbrev pub typed_in : Setting → Labels → Option ℕ → Option ℕ → List Word → Option Record
typed_in setting owner ttl class [] = None
typed_in setting owner ttl class (word ∷ words) = do
  rtype ← rtype_in word
  c ← class_for setting class
  rdata ← data_in setting.origin rtype words
  Some (record { owner = owner; class = c; rtype = rtype; ttl = ttl_for setting ttl; rdata = rdata })

-- the record that words say, in a line that begins with a blank or not
abbrev pub record_in : Setting → Bool → List Word → Option Record
record_in setting blank words = do
  owner ← owner_in setting blank words
  let front = ttl_and_class_in owner.1
  typed_in setting owner.0 front.0 front.1 front.2

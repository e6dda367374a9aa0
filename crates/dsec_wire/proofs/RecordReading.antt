-- A record read in steps: its owner, its head and its data.
use Rattle.std.proofs.Common.{◌≡◌, ℕ, ◌+◌, ◌<◌, ◌≤◌, List, length, Option, Some, None, refl, ◌∙◌}
use Rattle.std.specs.Prelude.{nat_lt, if◌then◌else◌}
use Rattle.std.specs.Bool.{OnFalse}
use Rattle.std.proofs.lemmas.Bool.{lt-ltb, le-ltb}
use Rattle.dsec_spec.specs.Messages.{data_at, record_at}
use Rattle.dsec_spec.specs.Reading.{◌>>=◌, u16_at, u32_at}
use Rattle.dsec_spec.specs.Records.{Record}
use Rattle.dsec_spec.specs.WireNames.{NameRead, name_at}
use Rattle.dsec_wire.specs.declared.error.MessageError.{MessageError}
use Rattle.dsec_wire.specs.declared.error.MessageError.TheVariants.{ParseError, NoMemory}
use Rattle.dsec_wire.specs.declared.reading.RecordHead.{RecordHead}
use Rattle.dsec_wire.specs.Errors.{wants_memory}
use Rattle.dsec_wire.specs.RecordHeads.{record_head}

-- a record of an owner, a head and the data after them
abbrev pub record_from : List ℕ → NameRead → RecordHead → Option (Record × ℕ)
record_from m name head =
    if nat_lt (length m) (name.1 + 10 + head.size) then None else
    data_at head.rtype m (name.1 + 10) (name.1 + 10 + head.size) >>= λ rdata.
    Some (record { owner = name.0; class = head.class; rtype = head.rtype; ttl = head.ttl; rdata = rdata }, name.1 + 10 + head.size)

abbrev give_head : RecordHead → Option RecordHead
give_head head = Some head

regroup : {A : Type 0} (a b c d : Option ℕ) (others : RecordHead → Option A)
    → (a >>= λ rtype. b >>= λ class. c >>= λ ttl. d >>= λ size. others (record { rtype = rtype; class = class; ttl = ttl; size = size }))
    ≡ ((a >>= λ rtype. b >>= λ class. c >>= λ ttl. d >>= λ size. give_head (record { rtype = rtype; class = class; ttl = ttl; size = size })) >>= others)
regroup None b c d others = refl
regroup (Some rtype) None c d others = refl
regroup (Some rtype) (Some class) None d others = refl
regroup (Some rtype) (Some class) (Some ttl) None others = refl
regroup (Some rtype) (Some class) (Some ttl) (Some size) others = refl

by_head : (m : List ℕ) (at : ℕ) → record_at m at ≡ (name_at m at >>= λ name. record_head m name.1 >>= record_from m name)
unfolding record_at
by_head m at = go (name_at m at)
  where
    go : (o : Option NameRead)
        → (o >>= λ name. u16_at m name.1 >>= λ rtype. u16_at m (name.1 + 2) >>= λ class. u32_at m (name.1 + 4) >>= λ ttl. u16_at m (name.1 + 8) >>= λ size.
        record_from m name (record { rtype = rtype; class = class; ttl = ttl; size = size }))
        ≡ (o >>= λ name. record_head m name.1 >>= record_from m name)
    go (Some name) = regroup (u16_at m name.1) (u16_at m (name.1 + 2)) (u32_at m (name.1 + 4)) (u16_at m (name.1 + 8)) (record_from m name)
    go None = refl

pub record_no_owner : (m : List ℕ) (at : ℕ) (error : MessageError) → OnFalse (wants_memory error) (name_at m at ≡ None) → OnFalse (wants_memory error) (record_at m at ≡ None)
record_no_owner m at NoMemory h = tt
record_no_owner m at ParseError h = by_head m at ∙ rw h refl

pub record_no_head : (m : List ℕ) (at : ℕ) (name : NameRead) → name_at m at ≡ Some name → record_head m name.1 ≡ None → record_at m at ≡ None
record_no_head m at name n h = by_head m at ∙ rw (n, h) refl

with_head : (m : List ℕ) (at : ℕ) (name : NameRead) (head : RecordHead) → name_at m at ≡ Some name → record_head m name.1 ≡ Some head → record_at m at ≡ record_from m name head
with_head m at name head n h = by_head m at ∙ rw (n, h) refl

pub record_cut : (m : List ℕ) (at : ℕ) (name : NameRead) (head : RecordHead) → name_at m at ≡ Some name → record_head m name.1 ≡ Some head → length m < name.1 + 10 + head.size → record_at m at ≡ None
record_cut m at name head n h cut = with_head m at name head n h ∙ rw (lt-ltb _ _ cut) refl

pub record_no_data : (m : List ℕ) (at : ℕ) (name : NameRead) (head : RecordHead) (error : MessageError) → name_at m at ≡ Some name → record_head m name.1 ≡ Some head → name.1 + 10 + head.size ≤ length m
    → OnFalse (wants_memory error) (data_at head.rtype m (name.1 + 10) (name.1 + 10 + head.size) ≡ None) → OnFalse (wants_memory error) (record_at m at ≡ None)
record_no_data m at name head NoMemory n h fits e = tt
record_no_data m at name head ParseError n h fits e = with_head m at name head n h ∙ rw (le-ltb _ _ fits, e) refl

pub record_whole : (m : List ℕ) (at : ℕ) (name : NameRead) (head : RecordHead) (rdata : List ℕ) → name_at m at ≡ Some name → record_head m name.1 ≡ Some head → name.1 + 10 + head.size ≤ length m
    → data_at head.rtype m (name.1 + 10) (name.1 + 10 + head.size) ≡ Some rdata
    → record_at m at ≡ Some (record { owner = name.0; class = head.class; rtype = head.rtype; ttl = head.ttl; rdata = rdata }, name.1 + 10 + head.size)
record_whole m at name head rdata n h fits e = with_head m at name head n h ∙ rw (le-ltb _ _ fits, e) refl

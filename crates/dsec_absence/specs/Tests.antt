-- What a record that counts shows at a name, as tests (RFC 4034 4, RFC 4035 5.4, RFC 6840 4.1, 4.3).
use Rattle.std.specs.Prelude.{ℕ, ◌==◌, ◌&&◌, ◌||◌, nat_lt, [], ◌∷◌, length, Bool, false, if◌then◌else◌}
use Rattle.std.proofs.Math.Bool.{not}
use Rattle.std.specs.Ordering.{is_lt}
use Rattle.std.specs.Str.{bytes_eq}
use Rattle.dsec_cause.specs.declared.cause.Cause.{Cause}
use Rattle.dsec_cause.specs.declared.cause.Cause.TheVariants.{NsecProvesType, NsecFromApexForDs, NsecFromParent, NsecMatches, NsecShowsEmptyNonTerminal, NsecDnameOrDelegation}
use Rattle.dsec_spec.specs.Names.{Place, place_cmp, same_place, is_below}
use Rattle.dsec_spec.specs.Numbers.{NS, CNAME, SOA, DS, DNAME}
use Rattle.dsec_spec.specs.DenyingRecords.{NsecAt, owner_of, next_of, has}

-- what a record shows at a name
pub data Shown (A : Type 0) : Type 0 where
  -- nothing: another record is to show it
  silent : Shown A
  -- that what is to be denied is there, or isn't for this record to deny: why
  refutes : Cause → Shown A
  -- what is denied, and with it this
  denies : A → Shown A

-- whether the name is in the record's gap: the test of `Covers` (RFC 4034 4.1.1)
abbrev pub covers : NsecAt → Place → Bool
covers r n = is_lt (place_cmp (owner_of r) n) && (is_lt (place_cmp n (next_of r)) || not (is_lt (place_cmp (owner_of r) (next_of r))))

-- whether a record is the zone's above a delegation, and so says nothing of what is there, but DS, or below (RFC 6840 4.1, an ancestor
-- delegation)
abbrev pub is_above_cut : NsecAt → Bool
is_above_cut r = has r NS && not (has r SOA)

-- whether a record is of a zone's apex
abbrev pub is_apex : NsecAt → Bool
is_apex r = has r NS && has r SOA

-- whether a name's DS stands in the zone above, as each does but the root's (RFC 4035 2.4)
abbrev pub is_ds_above : Place → ℕ → Bool
is_ds_above [] q = false
is_ds_above (label ∷ n) q = q == DS

-- what the name's own record shows of a type there (RFC 4035 5.4, RFC 6840 4.1, 4.3)
abbrev pub own_shows : NsecAt → Place → ℕ → Shown (Unit {0})
own_shows r n q =
    if has r q || has r CNAME then refutes NsecProvesType else
    if is_ds_above n q then (if is_apex r then refutes NsecFromApexForDs else denies tt) else
    if is_above_cut r then refutes NsecFromParent else denies tt

-- what a record shows of a type at a name: its own, or where the name is in its gap and has names under it (RFC 4035 5.4, RFC 4592 2.2.2)
abbrev pub shows_type : NsecAt → Place → ℕ → Shown (Unit {0})
shows_type r n q =
    if same_place (owner_of r) n then own_shows r n q else
    if covers r n && is_below (next_of r) n then denies tt else silent

-- the longest name that two names are, or are under
unfoldable pub common : Place → Place → Place
common [] n = []
common (k ∷ m) [] = []
common (k ∷ m) (l ∷ n) = if bytes_eq k l then k ∷ common m n else []

-- the longer of two names, the first where they are as long
abbrev pub longer : Place → Place → Place
longer m n = if nat_lt (length m) (length n) then n else m

-- the closest encloser of a name in the record's gap (RFC 4592 3.3.1)
abbrev pub encloser_by : NsecAt → Place → Place
encloser_by r n = longer (common n (owner_of r)) (common n (next_of r))

-- what a record shows of a name that is to be missing: its closest encloser, where the name is in its gap; but not where its next name is
-- under the name, which so exists (RFC 4592 2.2.2), nor from a DNAME or a delegation above the name (RFC 6840 4.1)
abbrev pub shows_missing : NsecAt → Place → Shown Place
shows_missing r n =
    if same_place (owner_of r) n then refutes NsecMatches else
    if not (covers r n) then silent else
    if is_below (next_of r) n then refutes NsecShowsEmptyNonTerminal else
    if is_below n (owner_of r) && (has r DNAME || is_above_cut r) then refutes NsecDnameOrDelegation else denies (encloser_by r n)

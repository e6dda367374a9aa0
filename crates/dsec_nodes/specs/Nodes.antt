-- Nodes: what is known of a name, and for how long (RFC 4033 5, RFC 4035 4.3, 5.2).
use Rattle.std.specs.Prelude.{◌≡◌, ℕ, ◌+◌, ◌≤◌, List, [], ◌∷◌, Option, Some, None, Bool, true, false}
use Rattle.dsec_spec.specs.Names.{Place}
use Rattle.dsec_spec.specs.Records.{Record}
use Rattle.dsec_spec.specs.Accepts.{Accepts}
use Rattle.dsec_spec.specs.Chain.{Link, IsChain}
use Rattle.dsec_nodes.specs.World.{Bounds, on_circle}
use Rattle.dsec_nodes.specs.Causes.{Cause, NoSupportedDs, Nsec3IterationsTooHigh}
use Rattle.dsec_nodes.specs.WithinCauses.{IsShownWithin}
pub use Rattle.dsec_nodes.specs.SignedCauses.{Ground, nsec_without_ds, nsec3_without_ds, nsec3_opts_out, nsec3_iterates, ds_not_supported, SignedCause, Shows, IsSignedCause}

-- what is known of a name (RFC 4033 5, RFC 4035 5.2)
pub data Standing : Type 0 where
  -- a zone begins here: the data of its DNSKEY set
  apex : List (List ℕ) → Standing
  -- it is in the zone above, and no zone begins here: the link of the set that shows it
  within : Link → Standing
  -- no chain leads here: the cause, if one is told, and the signed record that shows it
  insecure : Option Cause → SignedCause → Standing
  -- what was found out isn't to be relied on
  bogus : Cause → Standing

-- What is known of a name, from a moment on and for so many seconds: from which anchor, and by which links to which zone (RFC 4035 4.3, 4.5)
pub record Node : Type 0 where
  pub name : Place
  pub made : ℕ
  pub valid_for : ℕ
  -- from which anchor the chain leads; a node that isn't bogus has one
  pub anchor : Option Record
  -- the zone that is to have signed the records at the name
  pub signer : Place
  pub links : List Link
  pub standing : Standing
  -- the bounds within which it was made
  pub bounds : Bounds

-- the cause that is told of a ground: of too many iterations, and of DS records that can't be used; of a delegation none (RFC 8914 4)
abbrev pub cause_by : Ground → Option Cause
cause_by nsec_without_ds = None
cause_by nsec3_without_ds = None
cause_by nsec3_opts_out = None
cause_by nsec3_iterates = Some Nsec3IterationsTooHigh
cause_by ds_not_supported = Some NoSupportedDs

-- No chain leads to a name: a signed record shows it, the cause that is told is the record's, and the links are those to the zone that signed
-- the record; the zone that is named is the name itself (RFC 4035 5.2)
pub record HasNoChain (accepts : Accepts) (bounds : Bounds) (anchor : Record) (name signer : Place) (links : List Link) (cause : Option Cause) (signed : SignedCause) (t : ℕ) : Type 0 where
  pub shows : IsSignedCause accepts bounds anchor name signed t
  pub told : cause ≡ cause_by signed.basis
  pub to_zone : links ≡ shows.holds.chain
  pub its_own : name ≡ signer

-- What holds of a node at a moment: of a zone that a chain leads to its keys; of a name within a zone that one leads to the zone's keys, and
-- that a set of the zone's shows that no zone begins at the name; of a name to which none leads that a signed record shows it, with the record's
-- cause, and the links to its zone; of a bogus one nothing (RFC 4033 5)
abbrev pub HoldsAt : Accepts → Bounds → Record → Place → Place → List Link → Standing → ℕ → Type 0
HoldsAt accepts bounds anchor name signer links (apex keys) t = (name ≡ signer) × IsChain accepts (anchor ∷ []) links signer keys t
HoldsAt accepts bounds anchor name signer links (within last) t = IsShownWithin accepts anchor name signer links last t
HoldsAt accepts bounds anchor name signer links (insecure cause signed) t = HasNoChain accepts bounds anchor name signer links cause signed t
HoldsAt accepts bounds anchor name signer links (bogus cause) t = Unit {0}

-- whether it is bogus (RFC 4033 5)
abbrev pub IsBogus : Standing → Bool
IsBogus (bogus cause) = true
IsBogus _ = false

-- whether it is within a zone, and none begins at the name (RFC 4033 5)
abbrev pub IsWithin : Standing → Bool
IsWithin (within last) = true
IsWithin _ = false

-- a node that isn't bogus has an anchor, and from it what it says holds at each moment for which it is kept (RFC 4035 4.5, 5.3.3)
abbrev pub Kept : Accepts → Node → Type 0
Kept accepts n = IsBogus n.standing ≡ false → (anchor : Record) × (n.anchor ≡ Some anchor)
    × ((s : ℕ) → n.made ≤ s → s ≤ n.made + n.valid_for → HoldsAt accepts n.bounds anchor n.name n.signer n.links n.standing (on_circle s))

-- When a zone owns nothing of what is denied (RFC 4035 5.4, RFC 4592 3.3.1, RFC 6672 2.3, RFC 6840 4.1, 4.3).
use Rattle.std.specs.Prelude.{◌≡◌, ◌≢◌, ℕ, []}
use Rattle.dsec_spec.specs.Names.{Place, IsStrictlyBelow}
use Rattle.dsec_spec.specs.Numbers.{CNAME, DS, DNAME}
use Rattle.dsec_spec.specs.Zones.{Zone, Owns, Stands, IsDelegation, Exists, IsClosestEncloser, IsNextCloser, wildcard}

-- the name is under a DNAME with nothing under it, which redirects whatever is asked for there (RFC 6672 2.3, 2.4)
pub record IsRedirected (z : Zone) (n : Place) : Type 0 where
  pub from : Place
  pub above : IsStrictlyBelow n from
  pub dname : Owns z from DNAME
  pub alone : (m : Place) → IsStrictlyBelow m from → Stands z m → ⊥

-- The zone has no set of the type at the name, and no alias there (RFC 4035 5.4, RFC 6840 4.3); and it is the zone to say so: at a
-- delegation it is for DS alone, and at its apex for all but DS, unless that is the root (RFC 4035 2.4, RFC 6840 4.1)
pub record OwnsNoType (z : Zone) (n : Place) (q : ℕ) : Type 0 where
  pub no_type : Owns z n q → ⊥
  pub no_alias : Owns z n CNAME → ⊥
  pub no_cut : q ≢ DS → IsDelegation z n → ⊥
  pub no_apex : q ≡ DS → n ≢ [] → n ≢ z.apex

-- the zone doesn't have the name, nor the next closer one; no other zone begins above it, and no DNAME redirects it (RFC 4592 3.3.1,
-- RFC 6840 4.1)
pub record OwnsNoSuch (z : Zone) (n : Place) : Type 0 where
  pub no_name : Exists z n → ⊥
  pub no_closer : (c m : Place) → IsClosestEncloser z n c → IsNextCloser n c m → Exists z m → ⊥
  pub no_cut : (d : Place) → IsStrictlyBelow n d → IsDelegation z d → ⊥
  pub no_redirection : IsRedirected z n → ⊥

-- nor a wildcard that could stand for it (RFC 4035 5.4, RFC 4592 3.3.1)
pub record OwnsNoName (z : Zone) (n : Place) : Type 0 where
  pub no_such : OwnsNoSuch z n
  pub no_wildcard : (c : Place) → IsClosestEncloser z n c → Exists z (wildcard c) → ⊥

-- or the wildcard that stands for it hasn't the type (RFC 4035 3.1.3.4, RFC 4592 3.3.1)
pub record OwnsNoTypeByWildcard (z : Zone) (n : Place) (q : ℕ) : Type 0 where
  pub no_such : OwnsNoSuch z n
  pub no_type : (c : Place) → IsClosestEncloser z n c → OwnsNoType z (wildcard c) q

-- the zone doesn't have the name, and c is its closest encloser, so that no other wildcard than the one under c can stand for it
-- (RFC 4035 3.1.3.3, 5.3.4, RFC 4592 3.3.1)
pub record OwnsNoCloser (z : Zone) (n c : Place) : Type 0 where
  pub no_such : OwnsNoSuch z n
  pub closest : IsClosestEncloser z n c

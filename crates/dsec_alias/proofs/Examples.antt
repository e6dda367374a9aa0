-- Paths that come to each kind of end (RFC 1034 3.6.2, RFC 6672 2.2, 3.1).
use Rattle.std.proofs.Common.{◌≡◌, ℕ, List, [], ◌∷◌, Option, Some, None, refl, false}
use Rattle.dsec_cause.specs.declared.cause.Cause.TheVariants.{TooManyAliases, DnameFromWildcard, CnameFromApexForDs}
use Rattle.dsec_spec.specs.Names.{Labels, Place, place, wire_octets}
use Rattle.dsec_spec.specs.Numbers.{IN, A, CNAME, DNAME, DS}
use Rattle.dsec_spec.specs.RecordData.{labels_in, name_in}
use Rattle.dsec_spec.specs.Islands.{longest}
use Rattle.dsec_alias.specs.States.{State, secure, insecure, indeterminate}
use Rattle.dsec_alias.specs.Candidates.{Candidate, denied, Reply}
use Rattle.dsec_alias.specs.Following.{ends_at, ends_bogus, do_cname_dname}

-- the names a.e., b.e., x.d.e., d.e. and e.
abbrev e : Labels
e = (101 ∷ []) ∷ []

abbrev a_e : Labels
a_e = (97 ∷ []) ∷ e

abbrev b_e : Labels
b_e = (98 ∷ []) ∷ e

abbrev d_e : Labels
d_e = (100 ∷ []) ∷ e

abbrev x_d_e : Labels
x_d_e = (120 ∷ []) ∷ d_e

abbrev x_b_e : Labels
x_b_e = (120 ∷ []) ∷ b_e

-- a Secure group of one record that leads from an owner to a target
abbrev alias : ℕ → Labels → Labels → Option Labels → Candidate
alias rtype owner target encloser = record {
  group = record {
    owner = owner;
    class = IN;
    rtype = rtype;
    records = record { owner = owner; class = IN; rtype = rtype; ttl = 0; rdata = wire_octets target } ∷ [];
    signatures = [];
    extra = [];
    had_duplicate = false;
  };
  signer = place e;
  state = secure;
  encloser = encloser;
}

-- a reply with these groups, under an anchor at a name
abbrev reply : Labels → List Candidate → Reply ℕ
reply anchor candidates = record {
  anchors = record { owner = anchor; class = IN; rtype = 48; ttl = 0; rdata = [] } ∷ [];
  class = IN;
  rtype = A;
  candidates = candidates;
  denying = λ name c encloser. denied 7;
}

-- a CNAME record leads to its target, from where no group leads on
one_alias : do_cname_dname (reply e (alias CNAME a_e b_e None ∷ [])) 11 a_e ≡ ends_at b_e secure (record { group = 0; denial = None } ∷ [])
unfolding do_cname_dname longest name_in labels_in
one_alias = refl

-- a DNAME record leads to the name under its target, and a CNAME record on from there
two_aliases : do_cname_dname (reply e (alias CNAME x_b_e a_e None ∷ alias DNAME d_e b_e None ∷ [])) 11 x_d_e
    ≡ ends_at a_e secure (record { group = 1; denial = None } ∷ record { group = 0; denial = None } ∷ [])
unfolding do_cname_dname longest name_in labels_in
two_aliases = refl

-- a DNAME record above the island doesn't
above_the_island : do_cname_dname (reply x_d_e (alias DNAME d_e b_e None ∷ [])) 11 x_d_e ≡ ends_at x_d_e secure []
unfolding do_cname_dname longest name_in labels_in
above_the_island = refl

-- from a wildcard its denial stands beside it
from_a_wildcard : do_cname_dname (reply e (alias CNAME a_e b_e (Some e) ∷ [])) 11 a_e ≡ ends_at b_e secure (record { group = 0; denial = Some 7 } ∷ [])
unfolding do_cname_dname longest name_in labels_in
from_a_wildcard = refl

-- two records that lead to each other are too many
in_a_circle : do_cname_dname (reply e (alias CNAME a_e b_e None ∷ alias CNAME b_e a_e None ∷ [])) 11 a_e ≡ ends_bogus a_e TooManyAliases
unfolding do_cname_dname longest name_in labels_in
in_a_circle = refl

-- where the DS set of a name is asked for, a CNAME record of the zone above leads on, and one of the zone that begins at the name fails
abbrev for_ds : Place → State → Reply ℕ
for_ds zone state = record {
  anchors = record { owner = e; class = IN; rtype = 48; ttl = 0; rdata = [] } ∷ [];
  class = IN;
  rtype = DS;
  candidates = record (alias CNAME a_e b_e None) { signer = zone; state = state } ∷ [];
  denying = λ name c encloser. denied 7;
}

of_the_zone_above : do_cname_dname (for_ds (place e) secure) 11 a_e ≡ ends_at b_e secure (record { group = 0; denial = None } ∷ [])
unfolding do_cname_dname longest name_in labels_in
of_the_zone_above = refl

of_the_zone_below : do_cname_dname (for_ds (place a_e) secure) 11 a_e ≡ ends_bogus a_e CnameFromApexForDs
unfolding do_cname_dname longest name_in labels_in
of_the_zone_below = refl

of_an_unsigned_zone_below : do_cname_dname (for_ds (place a_e) insecure) 11 a_e ≡ ends_bogus a_e CnameFromApexForDs
unfolding do_cname_dname longest name_in labels_in
of_an_unsigned_zone_below = refl

-- where no anchor stands above it, nothing is known of its zone
of_an_unknown_zone : do_cname_dname (for_ds (place a_e) indeterminate) 11 a_e ≡ ends_at b_e indeterminate (record { group = 0; denial = None } ∷ [])
unfolding do_cname_dname longest name_in labels_in
of_an_unknown_zone = refl

-- a DNAME record from a wildcard fails
dname_from_a_wildcard : do_cname_dname (reply e (alias DNAME d_e b_e (Some e) ∷ [])) 11 x_d_e ≡ ends_bogus d_e DnameFromWildcard
unfolding do_cname_dname longest name_in labels_in
dname_from_a_wildcard = refl

-- What the data of each type is made of, and what it is written as in zone text
-- (RFC 1035 3.3, 3.4 and 5.1, RFC 3596 2.4, RFC 3597 4, RFC 4034 2.2, 5.3 and 6.2, RFC 5155, RFC 6672 2.1).
use Rattle.std.specs.Prelude.{ℕ, List, [], ◌∷◌, nat_eq, find, Option, Some, None, unwrap_or}
use Rattle.std.specs.List.{list_any}
use Rattle.std.specs.Option.{option_map}
use Rattle.dsec_spec.specs.Numbers.{A, NS, MD, MF, CNAME, SOA, MB, MG, MR, PTR, MINFO, MX, TXT, RP, AFSDB, RT, PX, AAAA, SRV, NAPTR, KX, DNAME, DS, RRSIG, NSEC, DNSKEY, NSEC3, NSEC3PARAM}

-- one part of a layout
pub data Field : Type 0 where
  -- a domain name, which signatures take in lower case (RFC 4034 6.2)
  lowered_name : Field
  -- a domain name, whose letters signatures take as they came (RFC 6840 5.1)
  kept_name : Field
  -- so many octets
  octets : ℕ → Field
  -- a length octet, and so many octets (RFC 1035 3.3)
  string : Field
  -- the types that a name owns, to the end of the data (RFC 4034 4.1.2)
  bitmap : Field
  -- all that is left of the data
  rest : Field

-- what one word of zone text writes
pub data Item : Type 0 where
  -- a domain name
  name : Item
  -- a number of 8, of 16 and of 32 bits
  octet : Item
  short : Item
  long : Item
  -- an address (RFC 1035 3.4.1, RFC 3596 2.4)
  ipv4 : Item
  ipv6 : Item

-- what the words after the items write, to the end of the line
pub data Tail : Type 0 where
  -- nothing: there are none
  nothing : Tail
  -- strings, one at least (RFC 1035 3.3)
  strings : Tail
  -- octets in hex or in base64, in one word or more (RFC 4034 2.2 and 5.3)
  hex : Tail
  base64 : Tail

-- what data is written as: items, of one word each, and what the words after them write
pub record Form : Type 0 where
  pub items : List Item
  pub tail : Tail

-- what data is made of, its fields in order, and what it is written as, if it has another form than the generic one (RFC 3597 5)
pub record Layout : Type 0 where
  pub fields : List Field
  pub form : Option Form

-- data that has the generic form alone
abbrev generic : List Field → Layout
generic fields = record { fields = fields; form = None }

-- data that is written as such items, and such words after them
abbrev written : List Field → List Item → Tail → Layout
written fields items tail = record { fields = fields; form = Some (record { items = items; tail = tail }) }

-- the types whose data has names, must hold certain octets, or has a form of its own
abbrev pub layouts : List (List ℕ × Layout)
layouts =
    (A ∷ [], written (rest ∷ []) (ipv4 ∷ []) nothing)
    ∷ (NS ∷ CNAME ∷ PTR ∷ DNAME ∷ [], written (lowered_name ∷ []) (name ∷ []) nothing)
    ∷ (MD ∷ MF ∷ MB ∷ MG ∷ MR ∷ [], generic (lowered_name ∷ []))
    ∷ (SOA ∷ [], written (lowered_name ∷ lowered_name ∷ octets 20 ∷ []) (name ∷ name ∷ long ∷ long ∷ long ∷ long ∷ long ∷ []) nothing)
    ∷ (MINFO ∷ RP ∷ [], generic (lowered_name ∷ lowered_name ∷ []))
    ∷ (MX ∷ [], written (octets 2 ∷ lowered_name ∷ []) (short ∷ name ∷ []) nothing)
    ∷ (KX ∷ RT ∷ AFSDB ∷ [], generic (octets 2 ∷ lowered_name ∷ []))
    ∷ (TXT ∷ [], written (rest ∷ []) [] strings)
    ∷ (AAAA ∷ [], written (rest ∷ []) (ipv6 ∷ []) nothing)
    ∷ (SRV ∷ [], generic (octets 6 ∷ lowered_name ∷ []))
    ∷ (PX ∷ [], generic (octets 2 ∷ lowered_name ∷ lowered_name ∷ []))
    ∷ (NAPTR ∷ [], generic (octets 4 ∷ string ∷ string ∷ string ∷ lowered_name ∷ []))
    ∷ (RRSIG ∷ [], generic (octets 18 ∷ lowered_name ∷ rest ∷ []))
    ∷ (NSEC ∷ [], generic (kept_name ∷ bitmap ∷ []))
    ∷ (NSEC3 ∷ [], generic (octets 4 ∷ string ∷ string ∷ bitmap ∷ []))
    ∷ (NSEC3PARAM ∷ [], generic (octets 4 ∷ string ∷ []))
    ∷ (DS ∷ [], written (octets 4 ∷ rest ∷ []) (short ∷ octet ∷ octet ∷ []) hex)
    ∷ (DNSKEY ∷ [], written (octets 4 ∷ rest ∷ []) (short ∷ octet ∷ octet ∷ []) base64)
    ∷ []

-- the row of a type; data of a type that isn't listed is opaque (RFC 3597 3)
abbrev pub row_of : ℕ → Layout
row_of rtype = unwrap_or (option_map (λ row. row.1) (find (λ row. list_any (nat_eq rtype) row.0) layouts)) (generic (rest ∷ []))

-- the fields of a type's data
abbrev pub layout_of : ℕ → List Field
layout_of rtype = (row_of rtype).fields

-- what a type's data is written as, if it has a form of its own
abbrev pub form_of : ℕ → Option Form
form_of rtype = (row_of rtype).form

-- The numbers of the class and the types that the rules speak of.
use Rattle.std.specs.Prelude.{ℕ}

-- the class of the Internet (RFC 1035 3.2.4)
abbrev pub IN : ℕ
IN = 1

-- an IPv4 address (RFC 1035 3.4.1)
abbrev pub A : ℕ
A = 1

-- a name server (RFC 1035 3.3.11)
abbrev pub NS : ℕ
NS = 2

-- a mail destination (RFC 1035 3.3.4)
abbrev pub MD : ℕ
MD = 3

-- a mail forwarder (RFC 1035 3.3.5)
abbrev pub MF : ℕ
MF = 4

-- an alias (RFC 1035 3.3.1)
abbrev pub CNAME : ℕ
CNAME = 5

-- the start of a zone (RFC 1035 3.3.13)
abbrev pub SOA : ℕ
SOA = 6

-- a mailbox (RFC 1035 3.3.3)
abbrev pub MB : ℕ
MB = 7

-- a mail group (RFC 1035 3.3.6)
abbrev pub MG : ℕ
MG = 8

-- a renamed mailbox (RFC 1035 3.3.8)
abbrev pub MR : ℕ
MR = 9

-- a pointer to a name (RFC 1035 3.3.12)
abbrev pub PTR : ℕ
PTR = 12

-- who answers for a mailbox (RFC 1035 3.3.7)
abbrev pub MINFO : ℕ
MINFO = 14

-- a mail exchange (RFC 1035 3.3.9)
abbrev pub MX : ℕ
MX = 15

-- texts (RFC 1035 3.3.14)
abbrev pub TXT : ℕ
TXT = 16

-- a responsible person (RFC 1183 2.2)
abbrev pub RP : ℕ
RP = 17

-- a server of AFS (RFC 1183 1)
abbrev pub AFSDB : ℕ
AFSDB = 18

-- a route through another host (RFC 1183 3.3)
abbrev pub RT : ℕ
RT = 21

-- a mapping of X.400 names (RFC 2163 4)
abbrev pub PX : ℕ
PX = 26

-- an IPv6 address (RFC 3596 2.1)
abbrev pub AAAA : ℕ
AAAA = 28

-- the place of a service (RFC 2782)
abbrev pub SRV : ℕ
SRV = 33

-- a rule that rewrites names (RFC 3403 4.1)
abbrev pub NAPTR : ℕ
NAPTR = 35

-- a key exchanger (RFC 2230 3.1)
abbrev pub KX : ℕ
KX = 36

-- an alias of a subtree (RFC 6672 2.1)
abbrev pub DNAME : ℕ
DNAME = 39

-- the extension record of EDNS (RFC 6891 6.1)
abbrev pub OPT : ℕ
OPT = 41

-- the digest of a child zone's key (RFC 4034 5)
abbrev pub DS : ℕ
DS = 43

-- a signature (RFC 4034 3)
abbrev pub RRSIG : ℕ
RRSIG = 46

-- the next name of a zone (RFC 4034 4)
abbrev pub NSEC : ℕ
NSEC = 47

-- a key of a zone (RFC 4034 2)
abbrev pub DNSKEY : ℕ
DNSKEY = 48

-- the next hashed name of a zone (RFC 5155 3)
abbrev pub NSEC3 : ℕ
NSEC3 = 50

-- how a zone hashes its names (RFC 5155 4)
abbrev pub NSEC3PARAM : ℕ
NSEC3PARAM = 51

-- the DS records that a zone asks its parent for (RFC 7344 3.1)
abbrev pub CDS : ℕ
CDS = 59

-- the keys for which a zone asks its parent for DS records (RFC 7344 3.2)
abbrev pub CDNSKEY : ℕ
CDNSKEY = 60

-- a question for all types (RFC 1035 3.2.3)
abbrev pub ANY : ℕ
ANY = 255

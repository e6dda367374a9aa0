-- The causes of verdicts: a code (RFC 8914 4) and a text each.
use Rattle.std.specs.Prelude.{◌≡◌, ℕ, List, codes}
use Rattle.dsec_cause.specs.declared.cause.Cause.{Cause}
use Rattle.dsec_cause.specs.declared.cause.Cause.TheVariants.{RrsigWithoutRrset, NoTrustAnchor, NoSignature, BadSignature, TooManyBadSignatures, TooManyBadSignaturesForDnskey, BadSignatureForDnskey, TooManyUnsignedCnames, NoDnskeyForAnchor, RequestFailed, RequestUnreadable, NoDnskey, TooManyDsRecords, TooManyDnskeysForDs, NoSupportedDs, NsecForDsFromWildcard, NsecProvesDs, NsecForDsFromApex, PrefixNsecFromWildcard, PrefixNsecIsDname, PrefixNsecIsDelegation, EmptyNonTerminalNsecFromWildcard, NsecNotUsable, Nsec3IterationsTooHigh, Nsec3UnsupportedAlgorithm, Nsec3BadOwnerHash, Nsec3FromWrongZone, Nsec3ProvesDs, Nsec3ForDsFromApex, Nsec3ProvesNameMissingForDs, NoProofForMissingDs, TooManyAliases, DnameFromWildcard, DnameTooLong, CnameFromApexForDs, SoaWrongClass, SoaWrongName, MissingSoa, NsecProvesType, NsecFromApexForDs, NsecFromParent, NsecMatches, NsecShowsEmptyNonTerminal, NsecDnameOrDelegation, NsecFromWildcard, WildcardElsewhere, WildcardTooLong, Nsec3ProvesType, Nsec3FromApexForDs, Nsec3FromParent, Nsec3DnameOrDelegation, TooManyNsec3Hashes, Nsec3OptOut, Nsec3IterationsInsecure, NoNsec3Proof, NoDenialProof}

-- 0 is "Other Error", 5 "DNSSEC Indeterminate", 6 "DNSSEC Bogus"
abbrev pub code_of : Cause → ℕ
code_of RrsigWithoutRrset = 5
code_of NoTrustAnchor = 5
code_of NoSignature = 6
code_of BadSignature = 6
code_of TooManyBadSignatures = 6
code_of TooManyBadSignaturesForDnskey = 6
code_of BadSignatureForDnskey = 6
code_of TooManyUnsignedCnames = 6
code_of NoDnskeyForAnchor = 6
code_of RequestFailed = 6
code_of RequestUnreadable = 6
code_of NoDnskey = 6
code_of TooManyDsRecords = 6
code_of TooManyDnskeysForDs = 6
code_of NoSupportedDs = 0
code_of NsecForDsFromWildcard = 6
code_of NsecProvesDs = 6
code_of NsecForDsFromApex = 6
code_of PrefixNsecFromWildcard = 6
code_of PrefixNsecIsDname = 6
code_of PrefixNsecIsDelegation = 6
code_of EmptyNonTerminalNsecFromWildcard = 6
code_of NsecNotUsable = 0
code_of Nsec3IterationsTooHigh = 6
code_of Nsec3UnsupportedAlgorithm = 6
code_of Nsec3BadOwnerHash = 6
code_of Nsec3FromWrongZone = 0
code_of Nsec3ProvesDs = 6
code_of Nsec3ForDsFromApex = 6
code_of Nsec3ProvesNameMissingForDs = 6
code_of NoProofForMissingDs = 6
code_of TooManyAliases = 6
code_of DnameFromWildcard = 6
code_of DnameTooLong = 6
code_of CnameFromApexForDs = 6
code_of SoaWrongClass = 6
code_of SoaWrongName = 6
code_of MissingSoa = 6
code_of NsecProvesType = 6
code_of NsecFromApexForDs = 6
code_of NsecFromParent = 6
code_of NsecMatches = 6
code_of NsecShowsEmptyNonTerminal = 6
code_of NsecDnameOrDelegation = 6
code_of NsecFromWildcard = 6
code_of WildcardElsewhere = 6
code_of WildcardTooLong = 6
code_of Nsec3ProvesType = 6
code_of Nsec3FromApexForDs = 6
code_of Nsec3FromParent = 6
code_of Nsec3DnameOrDelegation = 6
code_of TooManyNsec3Hashes = 6
code_of Nsec3OptOut = 0
code_of Nsec3IterationsInsecure = 0
code_of NoNsec3Proof = 0
code_of NoDenialProof = 6

-- the text, in ASCII
abbrev pub text_of : Cause → List ℕ
text_of RrsigWithoutRrset = codes "RRSIG without RRset"
text_of NoTrustAnchor = codes "No trust anchor for root."
text_of NoSignature = codes "No signature"
text_of BadSignature = codes "Bad signature"
text_of TooManyBadSignatures = codes "too many bad signatures"
text_of TooManyBadSignaturesForDnskey = codes "too many bad signatures for DNSKEY"
text_of BadSignatureForDnskey = codes "too many bad signature for DNSKEY"
text_of TooManyUnsignedCnames = codes "too many CNAMEs without RRSIGs"
text_of NoDnskeyForAnchor = codes "No DNSKEY RRset for trust anchor"
text_of RequestFailed = codes "request for DS or DNSKEY failed"
text_of RequestUnreadable = codes "request for DS or DNSKEY failed, parse error"
text_of NoDnskey = codes "No DNSKEY found"
text_of TooManyDsRecords = codes "too many DS records"
text_of TooManyDnskeysForDs = codes "Too many DNSKEYs that do not match DS record"
text_of NoSupportedDs = codes "No supported algorithm in DS RRset"
text_of NsecForDsFromWildcard = codes "NSEC for DS is wildcard"
text_of NsecProvesDs = codes "NSEC proves DS"
text_of NsecForDsFromApex = codes "NSEC for DS from apex"
text_of PrefixNsecFromWildcard = codes "prefix NSEC for DS is wildcard"
text_of PrefixNsecIsDname = codes "prefix NSEC for DS is DNAME"
text_of PrefixNsecIsDelegation = codes "prefix NSEC for DS is delegation"
text_of EmptyNonTerminalNsecFromWildcard = codes "ENT NSEC for DS is expanded wildcard"
text_of NsecNotUsable = codes "NSEC found but not usable"
text_of Nsec3IterationsTooHigh = codes "NSEC3 with too high iteration count"
text_of Nsec3UnsupportedAlgorithm = codes "NSEC3 with unsupported hash algorithm"
text_of Nsec3BadOwnerHash = codes "NSEC3 with bad owner hash"
text_of Nsec3FromWrongZone = codes "NSEC3 from wrong zone"
text_of Nsec3ProvesDs = codes "NSEC3 proves DS"
text_of Nsec3ForDsFromApex = codes "NSEC3 for DS from apex"
text_of Nsec3ProvesNameMissingForDs = codes "NSEC3 proves name does not exist for DS"
text_of NoProofForMissingDs = codes "No proof for missing DS"
text_of TooManyAliases = codes "too many DNAME/CNAME records in sequence"
text_of DnameFromWildcard = codes "DNAME from wildcard"
text_of DnameTooLong = codes "Failed to expand DNAME"
text_of CnameFromApexForDs = codes "CNAME from apex for DS"
text_of SoaWrongClass = codes "SOA with wrong class"
text_of SoaWrongName = codes "SOA with wrong name"
text_of MissingSoa = codes "Missing SOA record for NODATA or NXDOMAIN"
text_of NsecProvesType = codes "NSEC for NODATA proves requested Rtype or CNAME"
text_of NsecFromApexForDs = codes "NSEC from apex for DS"
text_of NsecFromParent = codes "NSEC from parent for non-DS rtype"
text_of NsecMatches = codes "Found matching NSEC while trying to proof non-existance"
text_of NsecShowsEmptyNonTerminal = codes "Found ENT NSEC while trying to proof non-existance"
text_of NsecDnameOrDelegation = codes "Found NSEC with DNAME or delegation while trying to proof non-existance"
text_of NsecFromWildcard = codes "NSEC is expanded from wildcard"
text_of WildcardElsewhere = codes "wildcard does not match NSEC dereived closest encloser"
text_of WildcardTooLong = codes "cannot create wildcard record"
text_of Nsec3ProvesType = codes "NSEC3 for NODATA proves requested Rtype or CNAME"
text_of Nsec3FromApexForDs = codes "NSEC3 from apex for DS"
text_of Nsec3FromParent = codes "NSEC3 from parent for non-DS rtype"
text_of Nsec3DnameOrDelegation = codes "Found NSEC3 with DNAME or delegation while trying to proof non-existance"
text_of TooManyNsec3Hashes = codes "Too many NSEC3 hash calculations needed to find closest-encloser"
text_of Nsec3OptOut = codes "NSEC3 with Opt-Out"
text_of Nsec3IterationsInsecure = codes "NSEC3 with too high iteration count"
text_of NoNsec3Proof = codes "No NSEC3 proves non-existance"
text_of NoDenialProof = codes "No NEC/NSEC3 proof for non-existance"

-- causes with the same code and the same text are the same
abbrev pub AreToldApart : Type 0
AreToldApart = (a b : Cause) → code_of a ≡ code_of b → text_of a ≡ text_of b → a ≡ b

-- The causes of what is known of a name (RFC 8914 4).
pub use Rattle.dsec_cause.specs.declared.cause.Cause.{Cause}
pub use Rattle.dsec_cause.specs.declared.cause.Cause.TheVariants.{RrsigWithoutRrset, NoTrustAnchor, TooManyUnsignedCnames, NoSignature, BadSignature, TooManyBadSignatures, TooManyBadSignaturesForDnskey, BadSignatureForDnskey, NoDnskeyForAnchor, RequestFailed, RequestUnreadable, NoDnskey, TooManyDsRecords, TooManyDnskeysForDs, NoSupportedDs, NsecForDsFromWildcard, NsecProvesDs, NsecForDsFromApex, PrefixNsecFromWildcard, PrefixNsecIsDname, PrefixNsecIsDelegation, EmptyNonTerminalNsecFromWildcard, NsecNotUsable, Nsec3IterationsTooHigh, Nsec3UnsupportedAlgorithm, Nsec3BadOwnerHash, Nsec3FromWrongZone, Nsec3ProvesDs, Nsec3ForDsFromApex, Nsec3ProvesNameMissingForDs, NoProofForMissingDs, MissingSoa, NoDenialProof}

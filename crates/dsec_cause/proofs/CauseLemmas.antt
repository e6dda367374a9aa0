-- A code and a text lead back to their cause, so no two causes share both.
use Rattle.std.proofs.Common.{◌≡◌, ℕ, List, [], ◌∷◌, Option, Some, refl, ap, sym, ◌∙◌, ◌&&◌}
use Rattle.std.specs.Prelude.{find, unwrap_or, ◌==◌}
use Rattle.std.specs.Str.{bytes_eq}
use Rattle.dsec_cause.specs.Causes.{AreToldApart, code_of, text_of}
use Rattle.dsec_cause.specs.declared.cause.Cause.{Cause}
use Rattle.dsec_cause.specs.declared.cause.Cause.TheVariants.{RrsigWithoutRrset, NoTrustAnchor, NoSignature, BadSignature, TooManyBadSignatures, TooManyBadSignaturesForDnskey, BadSignatureForDnskey, TooManyUnsignedCnames, NoDnskeyForAnchor, RequestFailed, RequestUnreadable, NoDnskey, TooManyDsRecords, TooManyDnskeysForDs, NoSupportedDs, NsecForDsFromWildcard, NsecProvesDs, NsecForDsFromApex, PrefixNsecFromWildcard, PrefixNsecIsDname, PrefixNsecIsDelegation, EmptyNonTerminalNsecFromWildcard, NsecNotUsable, Nsec3IterationsTooHigh, Nsec3UnsupportedAlgorithm, Nsec3BadOwnerHash, Nsec3FromWrongZone, Nsec3ProvesDs, Nsec3ForDsFromApex, Nsec3ProvesNameMissingForDs, NoProofForMissingDs, TooManyAliases, DnameFromWildcard, DnameTooLong, CnameFromApexForDs, SoaWrongClass, SoaWrongName, MissingSoa, NsecProvesType, NsecFromApexForDs, NsecFromParent, NsecMatches, NsecShowsEmptyNonTerminal, NsecDnameOrDelegation, NsecFromWildcard, WildcardElsewhere, WildcardTooLong, Nsec3ProvesType, Nsec3FromApexForDs, Nsec3FromParent, Nsec3DnameOrDelegation, TooManyNsec3Hashes, Nsec3OptOut, Nsec3IterationsInsecure, NoNsec3Proof, NoDenialProof}

-- all causes
abbrev all : List Cause
all = RrsigWithoutRrset ∷ NoTrustAnchor ∷ NoSignature ∷ BadSignature ∷ TooManyBadSignatures
    ∷ TooManyBadSignaturesForDnskey ∷ BadSignatureForDnskey ∷ TooManyUnsignedCnames
    ∷ NoDnskeyForAnchor ∷ RequestFailed ∷ RequestUnreadable ∷ NoDnskey ∷ TooManyDsRecords
    ∷ TooManyDnskeysForDs ∷ NoSupportedDs ∷ NsecForDsFromWildcard ∷ NsecProvesDs ∷ NsecForDsFromApex
    ∷ PrefixNsecFromWildcard ∷ PrefixNsecIsDname ∷ PrefixNsecIsDelegation
    ∷ EmptyNonTerminalNsecFromWildcard ∷ NsecNotUsable ∷ Nsec3IterationsTooHigh
    ∷ Nsec3UnsupportedAlgorithm ∷ Nsec3BadOwnerHash ∷ Nsec3FromWrongZone ∷ Nsec3ProvesDs
    ∷ Nsec3ForDsFromApex ∷ Nsec3ProvesNameMissingForDs ∷ NoProofForMissingDs ∷ TooManyAliases
    ∷ DnameFromWildcard ∷ DnameTooLong ∷ CnameFromApexForDs ∷ SoaWrongClass ∷ SoaWrongName ∷ MissingSoa
    ∷ NsecProvesType
    ∷ NsecFromApexForDs ∷ NsecFromParent ∷ NsecMatches ∷ NsecShowsEmptyNonTerminal
    ∷ NsecDnameOrDelegation ∷ NsecFromWildcard ∷ WildcardElsewhere ∷ WildcardTooLong
    ∷ Nsec3ProvesType ∷ Nsec3FromApexForDs ∷ Nsec3FromParent ∷ Nsec3DnameOrDelegation
    ∷ TooManyNsec3Hashes ∷ Nsec3OptOut ∷ Nsec3IterationsInsecure ∷ NoNsec3Proof ∷ NoDenialProof ∷ []

-- the first cause with this code and text
abbrev cause_of : ℕ → List ℕ → Option Cause
cause_of code text = find (λ cause. (code_of cause == code) && bytes_eq (text_of cause) text) all

back : (cause : Cause) → cause_of (code_of cause) (text_of cause) ≡ Some cause
back RrsigWithoutRrset = refl
back NoTrustAnchor = refl
back NoSignature = refl
back BadSignature = refl
back TooManyBadSignatures = refl
back TooManyBadSignaturesForDnskey = refl
back BadSignatureForDnskey = refl
back TooManyUnsignedCnames = refl
back NoDnskeyForAnchor = refl
back RequestFailed = refl
back RequestUnreadable = refl
back NoDnskey = refl
back TooManyDsRecords = refl
back TooManyDnskeysForDs = refl
back NoSupportedDs = refl
back NsecForDsFromWildcard = refl
back NsecProvesDs = refl
back NsecForDsFromApex = refl
back PrefixNsecFromWildcard = refl
back PrefixNsecIsDname = refl
back PrefixNsecIsDelegation = refl
back EmptyNonTerminalNsecFromWildcard = refl
back NsecNotUsable = refl
back Nsec3IterationsTooHigh = refl
back Nsec3UnsupportedAlgorithm = refl
back Nsec3BadOwnerHash = refl
back Nsec3FromWrongZone = refl
back Nsec3ProvesDs = refl
back Nsec3ForDsFromApex = refl
back Nsec3ProvesNameMissingForDs = refl
back NoProofForMissingDs = refl
back TooManyAliases = refl
back DnameFromWildcard = refl
back DnameTooLong = refl
back CnameFromApexForDs = refl
back SoaWrongClass = refl
back SoaWrongName = refl
back MissingSoa = refl
back NsecProvesType = refl
back NsecFromApexForDs = refl
back NsecFromParent = refl
back NsecMatches = refl
back NsecShowsEmptyNonTerminal = refl
back NsecDnameOrDelegation = refl
back NsecFromWildcard = refl
back WildcardElsewhere = refl
back WildcardTooLong = refl
back Nsec3ProvesType = refl
back Nsec3FromApexForDs = refl
back Nsec3FromParent = refl
back Nsec3DnameOrDelegation = refl
back TooManyNsec3Hashes = refl
back Nsec3OptOut = refl
back Nsec3IterationsInsecure = refl
back NoNsec3Proof = refl
back NoDenialProof = refl

pub told_apart : AreToldApart
told_apart a b same_code same_text =
    let codes_agree = ap (λ (code : ℕ). cause_of code (text_of a)) same_code in
    let texts_agree = ap (cause_of (code_of b)) same_text in
    ap (λ (found : Option Cause). unwrap_or found a) (sym (back a) ∙ (codes_agree ∙ (texts_agree ∙ back b)))

-- A set is refused exactly where it is due.
use Rattle.std.proofs.Common.{◌≡◌, ◌≢◌, ◌↔◌, ℕ, Ok, Err, Result, refl, ap, subst}
use Rattle.std.specs.Prelude.{IfErr, IsErrOf, OnOk}
use Rattle.dsec_spec.specs.Numbers.{RRSIG}
use Rattle.dsec_spec.specs.Signatures.{Period, IsValidPeriod}
use Rattle.dsec_rrsig.specs.declared.error.SignError.{SignError}
use Rattle.dsec_rrsig.specs.declared.error.SignError.TheVariants as sign
use Rattle.dsec_rrsig.specs.declared.error.SigningError.{SigningError}
use Rattle.dsec_rrsig.specs.declared.error.SigningError.TheVariants as signing
use Rattle.dsec_rrsig.specs.Errors.{of_sign_error}
use Rattle.dsec_rrsig.specs.Made.{IsSetRefusal}

-- where no cause was at hand, any other serves
pub refusal_of_test : (rtype : ℕ) (period : Period) (cause : Type 0) (e : SigningError) → IsSetRefusal rtype period ⊥ e → IsSetRefusal rtype period cause e
refusal_of_test rtype period cause signing.RrsigRrsMustNotBeSigned h = h
refusal_of_test rtype period cause (signing.InvalidSignatureValidityPeriod i x) h = h
refusal_of_test rtype period cause signing.OutOfMemory h = h
refusal_of_test rtype period cause (signing.SigningError sign.Failed) h = absurd h.2
refusal_of_test rtype period cause (signing.SigningError sign.NoMemory) h = absurd h
refusal_of_test rtype period cause signing.NoSignatureValidityPeriodProvided h = absurd h
refusal_of_test rtype period cause signing.SoaRecordCouldNotBeDetermined h = absurd h
refusal_of_test rtype period cause signing.EmptyRecordSlice h = absurd h
refusal_of_test rtype period cause signing.MultipleTtlValues h = absurd h
refusal_of_test rtype period cause (signing.Nsec3HashingError x) h = absurd h

-- a signer's error, once the tests passed
pub refusal_of_signer : (rtype : ℕ) (period : Period) (cause : Type 0) (e : SignError) → rtype ≢ RRSIG → IsValidPeriod period → (e ≡ sign.Failed → cause) → IsSetRefusal rtype period cause (of_sign_error e)
refusal_of_signer rtype period cause sign.Failed other valid why = (other, valid, why refl)
refusal_of_signer rtype period cause sign.NoMemory other valid why = (other, valid)

module _ (rtype : ℕ) (period : Period) (cause : Type 0) where
  only_type : (e : SigningError) → IsSetRefusal rtype period cause e → rtype ≡ RRSIG → e ≡ signing.RrsigRrsMustNotBeSigned
  only_type signing.RrsigRrsMustNotBeSigned h is = refl
  only_type (signing.InvalidSignatureValidityPeriod i x) h is = absurd (h.0 is)
  only_type signing.OutOfMemory h is = absurd (h.0 is)
  only_type (signing.SigningError sign.Failed) h is = absurd (h.0 is)
  only_type (signing.SigningError sign.NoMemory) h is = absurd h
  only_type signing.NoSignatureValidityPeriodProvided h is = absurd h
  only_type signing.SoaRecordCouldNotBeDetermined h is = absurd h
  only_type signing.EmptyRecordSlice h is = absurd h
  only_type signing.MultipleTtlValues h is = absurd h
  only_type (signing.Nsec3HashingError x) h is = absurd h

  only_period : (e : SigningError) → IsSetRefusal rtype period cause e → rtype ≢ RRSIG → (IsValidPeriod period → ⊥) → e ≡ signing.InvalidSignatureValidityPeriod period.inception period.expiration
  only_period signing.RrsigRrsMustNotBeSigned h other bad = absurd (other h)
  only_period (signing.InvalidSignatureValidityPeriod i x) h other bad = rw (h.2, h.3) refl
  only_period signing.OutOfMemory h other bad = absurd (bad h.1)
  only_period (signing.SigningError sign.Failed) h other bad = absurd (bad h.1)
  only_period (signing.SigningError sign.NoMemory) h other bad = absurd h
  only_period signing.NoSignatureValidityPeriodProvided h other bad = absurd h
  only_period signing.SoaRecordCouldNotBeDetermined h other bad = absurd h
  only_period signing.EmptyRecordSlice h other bad = absurd h
  only_period signing.MultipleTtlValues h other bad = absurd h
  only_period (signing.Nsec3HashingError x) h other bad = absurd h

  -- for its type, wherever that is RRSIG
  pub exact_type : {A : Type 0} (r : Result A SigningError) → OnOk r ((rtype ≢ RRSIG) × IsValidPeriod period) → IfErr r (λ e. IsSetRefusal rtype period cause e) → IsErrOf r signing.RrsigRrsMustNotBeSigned ↔ (rtype ≡ RRSIG)
  exact_type (Ok a) allowed why = (λ h. absurd cc, λ h. absurd (allowed.0 h))
  exact_type (Err e) allowed why = (
    λ h. subst (λ (r : Result _ SigningError). IfErr r (λ x. IsSetRefusal rtype period cause x)) h why,
    λ h. ap Err (only_type e why h),
  )

  -- for the period, wherever the type is another and the period isn't valid
  pub exact_period : {A : Type 0} (r : Result A SigningError) → OnOk r ((rtype ≢ RRSIG) × IsValidPeriod period) → IfErr r (λ e. IsSetRefusal rtype period cause e)
      → IsErrOf r (signing.InvalidSignatureValidityPeriod period.inception period.expiration) ↔ (rtype ≢ RRSIG) × (IsValidPeriod period → ⊥)
  exact_period (Ok a) allowed why = (λ h. absurd cc, λ h. absurd (h.1 allowed.1))
  exact_period (Err e) allowed why = (
    λ h. let g = subst (λ (r : Result _ SigningError). IfErr r (λ x. IsSetRefusal rtype period cause x)) h why in (g.0, g.1),
    λ h. ap Err (only_period e why h.0 h.1),
  )

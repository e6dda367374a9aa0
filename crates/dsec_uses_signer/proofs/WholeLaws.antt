-- A zone that is signed by its own key, step by step.
use Rattle.std.proofs.Common.{◌≡◌, ◌↔◌, ◌==◌, List, [], ◌∷◌, Bool, true, false, Result, Ok, refl, sym, ◌∙◌, subst}
use Rattle.std.specs.Prelude.{IsErrOf}
use Rattle.std.proofs.lemmas.Bool.{eqb-false, eqb-true}
use Rattle.dsec_spec.specs.Names.{Labels}
use Rattle.dsec_spec.specs.Records.{Key, Record}
use Rattle.dsec_spec.specs.Signatures.{Signer}
use Rattle.dsec_rrsig.specs.Keys.{HasProtocol, stand_in_signs}
use Rattle.dsec_sign.specs.ZoneSigning.{SignsZone, zone_period}
use Rattle.dsec_sign.specs.declared.config.SigningConfig.{SigningConfig}
use Rattle.dsec_sorted.specs.declared.config.DenialConfig.TheVariants as configs
use Rattle.dsec_uses_signer.specs.Whole.{IsOwnKey, SignsKey, SignsWhole, config}

-- a key that isn't refused for its protocol has that of DNSSEC
pub has_protocol : {T E : Type 0} (key : Key) (read : Result T E) (made : T) (unsupported : E) → read ≡ Ok made → IsErrOf read unsupported ↔ (HasProtocol key → ⊥) → HasProtocol key
has_protocol key read made unsupported is refused = by (key.protocol == 3) refl
  where
    by : (b : Bool) → (key.protocol == 3) ≡ b → HasProtocol key
    by true e = eqb-true key.protocol 3 e
    by false e = let clash = sym is ∙ refused.1 (eqb-false key.protocol 3 e) in absurd cc

-- its NSEC records and signatures, and then the signature over its key
pub signed_whole : (zone signed made : List Record) (own : Record) (by after : Signer) (c : SigningConfig) (apex : Labels) → IsOwnKey zone own by
    → c.denial ≡ configs.Nsec → c.inception ≡ 0 → c.expiration ≡ 1000 → apex ≡ own.owner
    → SignsZone stand_in_signs c (by ∷ []) apex zone zone signed → after ≡ by → SignsKey (zone_period c) own after signed made → SignsWhole zone made
signed_whole zone signed made own by after c apex is_own denial inception expiration at s kept k =
    let is : c ≡ config = λ i. record { denial = denial i; inception = inception i; expiration = expiration i } in
    record {
      own = own;
      by = by;
      is_own = is_own;
      signed = signed;
      is_signed = subst (λ (x : SigningConfig). SignsZone stand_in_signs x (by ∷ []) own.owner zone zone signed) is
          (subst (λ (x : Labels). SignsZone stand_in_signs c (by ∷ []) x zone zone signed) at s);
      key_signed = subst (λ (x : SigningConfig). SignsKey (zone_period x) own by signed made) is
          (subst (λ (x : Signer). SignsKey (zone_period c) own x signed made) kept k);
    }

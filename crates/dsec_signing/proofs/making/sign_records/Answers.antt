use Rattle.std.proofs.Common.{◌≡◌, ◌∙◌, ◌∷◌, [], List, subst}
use Rattle.std.proofs.lemmas.Result.{err_from_is_err_and}
use Rattle.dsec_spec.specs.Names.{place}
use Rattle.dsec_spec.specs.Records.{Record}
use Rattle.dsec_spec.specs.Signatures.{Period, Signer}
use Rattle.dsec_rrsig.specs.Keys.{stand_in_signs}
use Rattle.dsec_signing.specs.KeySets.{of_stand_in}
use Rattle.dsec_signing.specs.Signed.{IsKeySetRefusal, IsKeySetSigned, config_of, keys_at, of_keys, of_zone, signer_of}
use Rattle.dsec_sign.specs.ZoneSigning.{IsZoneRefusal, SignsZone}
use Rattle.dsec_sign.specs.declared.config.SigningConfig.{SigningConfig}
use Rattle.dsec_signing.proofs.MakingLemmas.{hindered, of_one_class}
use Rattle.dsec_signing.proofs.making.sign_records.Goals as goal

pub sign_in_place-requires : goal.sign_in_place-requires
sign_in_place-requires c = of_one_class c.args.words c.args.records.items c.in_ok-zone.zone c.requires.class c.in_ok-zone.ensures

pub returns-in_err-sign_in_place : goal.returns-in_err-sign_in_place
returns-in_err-sign_in_place c =
    let words = c.args.words in
    let zone = c.in_ok-zone.zone in
    let config : c.new-config.result ≡ config_of words =
    λ i. record { denial = (c.new-config.ensures.denial ∙ c.denial_config.ensures) i; inception = c.new-config.ensures.inception i; expiration = c.new-config.ensures.expiration i } in
    let signer : of_stand_in c.new-key.result ≡ signer_of words = λ i. record { owner = (c.new-key.ensures.owner ∙ c.in_ok-copied.ensures) i; key = c.new-key.ensures.inner i } in
    let p = err_from_is_err_and c.from_residual-in_err-sign_in_place.result c.from_residual-in_err-sign_in_place.ensures.1 in
    let refusal : IsZoneRefusal (config_of words) (signer_of words ∷ []) ⊥ words.apex zone zone c.sign_in_place.new.zone c.in_err-sign_in_place.field-0.0 =
    subst (λ (by : Signer). IsZoneRefusal (config_of words) (by ∷ []) ⊥ words.apex zone zone c.sign_in_place.new.zone c.in_err-sign_in_place.field-0.0) signer
    (subst (λ (it : SigningConfig). IsZoneRefusal it (of_stand_in c.new-key.result ∷ []) ⊥ words.apex zone zone c.sign_in_place.new.zone c.in_err-sign_in_place.field-0.0) config c.in_err-sign_in_place.ensures.why) in
    rw (p.1, p.2) (hindered words c.args.records.items c.in_err-sign_in_place.field-0.0 (of_zone zone c.sign_in_place.new.zone c.in_err-sign_in_place.field-0.0 c.in_ok-zone.ensures refusal))

pub returns-in_err-signature : goal.returns-in_err-signature
returns-in_err-signature c =
    let words = c.args.words in
    let zone = c.in_ok-zone.zone in
    let whole = c.sign_in_place.new.zone in
    let config : c.new-config.result ≡ config_of words =
    λ i. record { denial = (c.new-config.ensures.denial ∙ c.denial_config.ensures) i; inception = c.new-config.ensures.inception i; expiration = c.new-config.ensures.expiration i } in
    let signer : of_stand_in c.new-key.result ≡ signer_of words = λ i. record { owner = (c.new-key.ensures.owner ∙ c.in_ok-copied.ensures) i; key = c.new-key.ensures.inner i } in
    let p = err_from_is_err_and c.from_residual-in_err-signature.result c.from_residual-in_err-signature.ensures.1 in
    let signed : SignsZone stand_in_signs (config_of words) (signer_of words ∷ []) words.apex zone zone whole =
    subst (λ (by : Signer). SignsZone stand_in_signs (config_of words) (by ∷ []) words.apex zone zone whole) signer
    (subst (λ (it : SigningConfig). SignsZone stand_in_signs it (of_stand_in c.new-key.result ∷ []) words.apex zone zone whole) config c.in_ok-sign_in_place.ensures.signed) in
    let refusal : IsKeySetRefusal (record { inception = words.inception; expiration = words.expiration }) (keys_at (place words.apex) whole) c.in_err-signature.field-0.0 =
    subst (λ (records : List Record). IsKeySetRefusal (record { inception = words.inception; expiration = words.expiration }) (keys_at (place words.apex) records) c.in_err-signature.field-0.0)
    c.as_slice.ensures.value c.in_err-signature.ensures.why in
    rw (p.1, p.2) (hindered words c.args.records.items c.in_err-signature.field-0.0 (of_keys zone whole c.in_err-signature.field-0.0 (record { with_key = c.in_ok-zone.ensures; signed = signed }) refusal))

pub returns : goal.returns
returns c =
    let words = c.args.words in
    let zone = c.in_ok-zone.zone in
    let whole = c.sign_in_place.new.zone in
    let period : Period = record { inception = words.inception; expiration = words.expiration } in
    let config : c.new-config.result ≡ config_of words =
    λ i. record { denial = (c.new-config.ensures.denial ∙ c.denial_config.ensures) i; inception = c.new-config.ensures.inception i; expiration = c.new-config.ensures.expiration i } in
    let signer : of_stand_in c.new-key.result ≡ signer_of words = λ i. record { owner = (c.new-key.ensures.owner ∙ c.in_ok-copied.ensures) i; key = c.new-key.ensures.inner i } in
    let signed : SignsZone stand_in_signs (config_of words) (signer_of words ∷ []) words.apex zone zone whole =
    subst (λ (by : Signer). SignsZone stand_in_signs (config_of words) (by ∷ []) words.apex zone zone whole) signer
    (subst (λ (it : SigningConfig). SignsZone stand_in_signs it (of_stand_in c.new-key.result ∷ []) words.apex zone zone whole) config c.in_ok-sign_in_place.ensures.signed) in
    let keys : IsKeySetSigned (signer_of words) period (keys_at (place words.apex) whole) c.in_ok-signature.signature =
    subst (λ (by : Signer). IsKeySetSigned by period (keys_at (place words.apex) whole) c.in_ok-signature.signature) (c.in_ok-sign_in_place.ensures.kept ∙ signer)
    (subst (λ (records : List Record). IsKeySetSigned (of_stand_in c.sign_in_place.new.key) period (keys_at (place words.apex) records) c.in_ok-signature.signature) c.as_slice.ensures.value c.in_ok-signature.ensures.signed) in
    record {
      zone = zone;
      whole = whole;
      zone_signed = record { with_key = c.in_ok-zone.ensures; signed = signed };
      signature = c.in_ok-signature.signature;
      keys_signed = keys;
      all = c.in_ok-add.ensures;
    }

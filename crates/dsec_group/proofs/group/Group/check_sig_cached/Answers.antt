use Rattle.std.proofs.Common.{◌≡◌, ◌↔◌, IsTrue, subst}
use Rattle.std.specs.Prelude.{IfOk}
use Rattle.dsec_spec.specs.Groups.{set_in}
use Rattle.dsec_spec.specs.Names.{place}
use Rattle.dsec_spec.specs.Records.{Key}
use Rattle.dsec_spec.specs.Signed.{signs}
use Rattle.dsec_group.specs.Checks.{IsOfKey}
use Rattle.dsec_wire.specs.Views.{key_view, rrsig_view}
use Rattle.dsec_group.proofs.CheckLaws.{not_of_key, of_key_signs, read_is}
use Rattle.dsec_group.proofs.group.Group.check_sig_cached.Goals as goal

pub returns-then-not-is_of_key : goal.returns-then-not-is_of_key
returns-then-not-is_of_key g c =
    not_of_key g.V.Verifier.accepts c.args.self.now c.args.sig.now (rrsig_view c.in-Some.rrsig) (key_view c.args.key.now) (place c.args.signer_name.now) (place c.args.key_name.now) c.args.key_tag c.args.t
    (read_is c.rdata.result.now c.args.sig.now (rrsig_view c.in-Some.rrsig) c.rdata.ensures.value c.in-Some.ensures.value) c.is_of_key.result c.if-not-is_of_key.true
    (subst (λ (k : Key). IsTrue c.is_of_key.result ↔ IsOfKey c.args.self.now c.args.sig.now (place c.args.signer_name.now) k (place c.args.key_name.now) c.args.key_tag) c.new-key.ensures c.is_of_key.ensures)

pub returns : goal.returns
returns g c =
    of_key_signs g.V.Verifier.accepts c.args.self.now c.args.sig.now (rrsig_view c.in-Some.rrsig) (key_view c.args.key.now) (place c.args.signer_name.now) (place c.args.key_name.now) c.args.key_tag c.args.t
    (read_is c.rdata.result.now c.args.sig.now (rrsig_view c.in-Some.rrsig) c.rdata.ensures.value c.in-Some.ensures.value) c.is_of_key.result c.check_once.result c.if-not-is_of_key.false
    (subst (λ (k : Key). IsTrue c.is_of_key.result ↔ IsOfKey c.args.self.now c.args.sig.now (place c.args.signer_name.now) k (place c.args.key_name.now) c.args.key_tag) c.new-key.ensures c.is_of_key.ensures)
    (subst (λ (k : Key). IfOk c.check_once.result (λ yes. yes ≡ signs g.V.Verifier.accepts (set_in c.args.self.now) (place c.args.signer_name.now) c.args.t (rrsig_view c.in-Some.rrsig) k)) c.new-key.ensures c.check_once.ensures)

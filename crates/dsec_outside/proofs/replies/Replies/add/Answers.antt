use Rattle.std.proofs.Common.{◌≡◌, ap, sym, ◌∙◌, subst}
use Rattle.dsec_spec.specs.Outside.{with_entry}
use Rattle.dsec_outside.specs.Replies.{entry_of, table_of}
use Rattle.dsec_outside.proofs.TableLemmas.{on_ok, with_entry-found, with_entry-new}
use Rattle.dsec_outside.proofs.replies.Replies.add.Goals as goal

pub returns-then-not-contains_key-clause-ok : goal.returns-then-not-contains_key-clause-ok
returns-then-not-contains_key-clause-ok c =
    on_ok c.put.result
    (λ e. ap table_of e
    ∙ with_entry-new (record { name = c.args.name; rtype = c.args.rtype }, c.args.reply) c.self.inside.entries.entries (sym c.contains_key.ensures ∙ c.if-not-contains_key.true)
    ∙ ap (λ table. with_entry table (entry_of (record { name = c.args.name; rtype = c.args.rtype }, c.args.reply))) c.self.view_is)
    c.put.ensures.ok

pub returns-clause-ok : goal.returns-clause-ok
returns-clause-ok c =
    subst (λ table. table ≡ with_entry table (entry_of (record { name = c.args.name; rtype = c.args.rtype }, c.args.reply))) c.self.view_is
    (with_entry-found (record { name = c.args.name; rtype = c.args.rtype }, c.args.reply) c.self.inside.entries.entries (sym c.contains_key.ensures ∙ c.if-not-contains_key.false))

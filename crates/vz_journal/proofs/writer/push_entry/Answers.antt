use Rattle.std.proofs.Common.{◌≡◌, [], ◌∷◌, ◌++◌, string_bytes, OnOk, ap, ◌∙◌, subst}
use Rattle.vz_rules.specs.Log.{entry_text, event_text, reply_text}
use Rattle.vz_journal.proofs.Plain.{plain_line}
use Rattle.vz_journal.proofs.writer.push_entry.Goals as goal

pub returns-in-None : goal.returns-in-None
unfolding entry_text
returns-in-None c =
    let e = c.args.entry.now in
    let text = string_bytes c.args.out.now in
    let end = plain_line text (event_text e.event) (reply_text e.reply) e.effects (c.get.ensures.none c.in-None.is) in
    let both = ap (λ t. t ++ (32 ∷ reply_text e.reply ++ 10 ∷ [])) c.in_ok-push_event.ensures ∙ end in
    subst (λ t. OnOk c.push_plain.result (string_bytes c.push_plain.new.out ≡ t)) both c.push_plain.ensures

use Rattle.std.proofs.Common.{◌≡◌, ◌++◌, string_bytes, codes}
use Rattle.std.specs.Fmt.{decimal}
use Rattle.viz_run.proofs.Spelled.{fault_spelled}
use Rattle.viz_run.proofs.lines.no_text.Goals as goal

pub returns : goal.returns
returns c =
    let numbered : string_bytes c.write.new.self ≡ string_bytes c.new-text.result ++ (codes "no " ++ decimal c.args.entry) = c.in_ok-write.ensures.bytes in
    fault_spelled c.args.entry c.args.what _ _ _ _ _ _ c.new-text.ensures.bytes numbered c.in_ok-push_str.ensures.bytes c.what_text.ensures
    c.in_ok-push_str-2.ensures.bytes c.in_ok-push_str-3.ensures.bytes

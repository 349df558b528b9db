use Rattle.std.proofs.Common.{◌≡◌, ◌++◌, string_bytes, codes}
use Rattle.std.specs.Fmt.{decimal}
use Rattle.viz_run.proofs.Spelled.{refused_spelled}
use Rattle.viz_run.proofs.lines.refused_text.Goals as goal

pub returns : goal.returns
returns c =
    let refused = c.args.refused.now in
    let numbered : string_bytes c.write.new.self ≡ string_bytes c.new-text.result ++ (codes "file " ++ decimal refused.file) = c.in_ok-write.ensures.bytes in
    let placed : string_bytes c.write-2.new.self ≡ string_bytes c.write.new.self ++ (codes " refused at " ++ decimal refused.at) = c.in_ok-write-2.ensures.bytes in
    refused_spelled refused _ _ _ _ _ _ _ c.new-text.ensures.bytes numbered placed c.in_ok-push_str.ensures.bytes c.reason_text.ensures
    c.in_ok-push_str-2.ensures.bytes c.in_ok-push_str-3.ensures.bytes

-- Before the first step.
use Rattle.std.proofs.Common.{◌≡◌, false, Some, None, List, [], map, slice_get, arith}
use Rattle.vz_ids.specs.declared.FrameSinkId.{FrameSinkId}
use Rattle.vz_frame.specs.declared.message.ClientFile.{ClientFile}
use Rattle.vz_rules.specs.{Plan.Plan, World.opening}
use Rattle.vz_support.specs.{Sent.Sender, Sent.opened, Supporting.IsSupport}
use Rattle.vz_support.proofs.{Clients_kept.opens, Requesting.makes}
use Rattle.vz_sinks.specs.Relating.{Related, seats_from}
use Rattle.vz_sinks.proofs.Same_seats.{opened_as, first_as}
use Rattle.std.proofs.lemmas.Bool.Decides.{nat_tests}

-- what is made of the files of a plan
pub opens_as : (p : Plan) (files : List ClientFile) (list : List FrameSinkId) (clients : List Sender) (s : Related) → p.files ≡ files
    → list ≡ map (λ (f : ClientFile). f.sink) files
    → clients ≡ map opened files → slice_get list 0 ≡ Some s.first → s.seats ≡ seats_from 1 list → s.relations ≡ []
    → IsSupport p (opening p) (record { clients = clients; sinks = s; tick = 0; root = None; over = false })
unfolding opening
opens_as p files list clients s same listed kept first seats relations = grind (arith, nat_tests, makes p (opening p), opens p, first_as p, opened_as p)

-- What is given back and fed, by the parts of a world that tell it.
use Rattle.std.proofs.Common.{◌≡◌, List, map, refl, ap, ◌∙◌}
use Rattle.std.specs.List.{flat_map, filter_map}
use Rattle.vz_ids.specs.declared.Sub.{Sub}
use Rattle.vz_rules.specs.World.{World, Client, Surface, Submission}
use Rattle.vz_rules.specs.Returns.{is_held, queue_returns, returns_of, give_back, returned_in, feed, fed_in}
use Rattle.vz_rules.specs.declared.entry.Returned.{Returned}
use Rattle.vz_rules.specs.declared.entry.Fed.{Fed}
use Rattle.vz_state.specs.Holding.{holding, feedback_by, fed_by}

queues : (v : World) (clients : List Client) → map (queue_returns (holding v.subs v.surfaces v.in_flight)) clients ≡ map (queue_returns v) clients
unfolding is_held
queues v clients = refl

returns : (v : World) (clients : List Client) → flat_map (returns_of (holding v.subs v.surfaces v.in_flight)) clients ≡ flat_map (returns_of v) clients
unfolding is_held
returns v clients = refl

-- what was done is giving back
pub given_is : (w v : World) → v ≡ w → (submissions : List Submission) (surfaces : List Surface) (clients : List Client) → submissions ≡ v.subs → surfaces ≡ v.surfaces
    → clients ≡ map (queue_returns (holding submissions surfaces v.in_flight)) v.clients → ◌≡◌ {A = World} (record v { clients = clients }) (give_back w)
unfolding give_back
given_is w v e submissions surfaces clients f g is =
    let with_seats : List Client → World = λ l. record v { clients = l } in
    ap with_seats (is ∙ (ap (λ (l : List Submission). map (queue_returns (holding l surfaces v.in_flight)) v.clients) f
    ∙ (ap (λ (l : List Surface). map (queue_returns (holding v.subs l v.in_flight)) v.clients) g ∙ queues v v.clients))) ∙ ap give_back e

-- what was found is what is given back
pub returned_is : (w v : World) → v ≡ w → (submissions : List Submission) (surfaces : List Surface) (clients : List Client) (all : List Returned) → submissions ≡ v.subs → surfaces ≡ v.surfaces → clients ≡ v.clients
    → all ≡ flat_map (returns_of (holding submissions surfaces v.in_flight)) clients → all ≡ returned_in w
unfolding returned_in
returned_is w v e submissions surfaces clients all f g h is =
    is ∙ (ap (λ (l : List Submission). flat_map (returns_of (holding l surfaces v.in_flight)) clients) f
    ∙ (ap (λ (l : List Surface). flat_map (returns_of (holding v.subs l v.in_flight)) clients) g ∙ (returns v clients ∙ (ap (flat_map (returns_of v)) h ∙ ap returned_in e))))

-- what was done is feeding
pub feed_is : (w v : World) → v ≡ w → (presented : List Sub) (submissions : List Submission) → submissions ≡ map (fed_by v.in_flight presented) v.subs → ◌≡◌ {A = World} (record v { subs = submissions }) (feed presented w)
unfolding feed
feed_is w v e presented submissions is =
    let with_rows : List Submission → World = λ l. record v { subs = l } in
    ap with_rows is ∙ ap (feed presented) e

-- what was found is what is fed
pub fed_is : (w v : World) → v ≡ w → (presented : List Sub) (submissions : List Submission) (all : List Fed) → submissions ≡ v.subs → all ≡ filter_map (feedback_by v.in_flight presented) submissions → all ≡ fed_in presented w
unfolding fed_in
fed_is w v e presented submissions all f is = is ∙ (ap (filter_map (feedback_by v.in_flight presented)) f ∙ ap (fed_in presented) e)

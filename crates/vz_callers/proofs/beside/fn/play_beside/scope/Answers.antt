use Rattle.std.proofs.Common.{◌∙◌}
use Rattle.vz_callers.proofs.beside.fn.play_beside.scope.Goals as goal

pub returns : goal.returns
returns g c = record {
  count = c.finish_all-complete.ensures.count ∙ c.start_all.ensures.count;
  capacity = c.finish_all-complete.ensures.capacity ∙ c.start_all.ensures.capacity;
  numbers = c.finish_all-complete.ensures.numbers ∙ c.start_all.ensures.numbers;
  back = λ p crew. c.finish_all-complete.ensures.back c.captures.gate.now c.captures.hub.now.id p (c.start_all.ensures.going p crew);
  told = c.make_rounds-played.ensures.told;
  stays = c.make_rounds-played.ensures.stays;
  played = c.make_rounds-played.ensures.ok;
}

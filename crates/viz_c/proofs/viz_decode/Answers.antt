use Rattle.viz_c.proofs.Said_of_bytes.{accepted, refused, in_range}
use Rattle.viz_c.proofs.viz_decode.Goals as goal

pub returns-clause-accepted : goal.returns-clause-accepted
returns-clause-accepted c e =
    accepted c.args.bytes.now c.decode.result c.tell_decoding.result c.tell_decoding.new.at c.decode.ensures.exact c.tell_decoding.ensures.told e

pub returns-clause-refused : goal.returns-clause-refused
returns-clause-refused c rule e =
    refused c.args.bytes.now c.decode.result c.tell_decoding.result c.tell_decoding.new.at rule c.decode.ensures.exact c.tell_decoding.ensures.told e

pub returns-clause-range : goal.returns-clause-range
returns-clause-range c = in_range c.decode.result c.tell_decoding.result c.tell_decoding.new.at c.tell_decoding.ensures.told

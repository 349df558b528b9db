-- What stands of the frames and the log after the frames were shown.
use Rattle.std.proofs.Common.{◌≡◌, ◌≢◌, ℕ, List, [], ◌∷◌, Ok, refl, sym, subst, ◌∙◌, inr}
use Rattle.vz_outside.specs.Shelved.{Shelved, Name, IsCall, KeepsOthers, Appends, AppendsFront, Behaves}
use Rattle.vz_outside.proofs.Calls.{Ran, ran_then_ran, known_after, call_then_call}
use Rattle.vz_player.specs.{Written.KeepsAllBut, Written.WritesAll, Written.WritesSome, Written.IsOut, declared.outputs.Outputs.Outputs}
use Rattle.vz_player.proofs.Outs.{both, out_kept, out_more, others_named, front_of_out, front_of_begun, Stands, made_stands, log_stands, log_cut, stands_whole}
use Rattle.vz_rules.specs.{Log.log_text, Log.rest_of, Plan.Plan, declared.entry.Entry.Entry, declared.entry.Rest.Rest}
use Rattle.vz_threads.specs.Courses.{frames_of}
use Rattle.viz_run.specs.Ends.{log_of, frames_and_log}

module _ (frames log : Name) (apart : frames ≢ log) (outputs : Outputs) (a b c : Shelved) (drawn : List ℕ) (before : Stands frames log outputs [] [] a b) (kept : KeepsOthers (b.name outputs.frames) b c) where
  frames_alone : KeepsOthers frames b c
  frames_alone = others_named frames outputs.frames [] b c before.frames_are kept

  others_stay : KeepsAllBut (frames ∷ log ∷ []) a c
  others_stay told name other = frames_alone.files (known_after a b before.ran.call told) name other.0 ∙ before.others told name other

  -- the frames are written
  pub shown_stands : Appends drawn (b.name outputs.frames) b c → Ran b c → Stands frames log outputs drawn [] a c
  shown_stands added ran = record {
    ran = ran_then_ran a b c before.ran ran;
    frames_are = out_more frames outputs.frames [] drawn b c before.frames_are ran.call added;
    log_is = out_kept log frames outputs.log [] b c before.log_is ran.call (λ same. apart (sym same)) frames_alone;
    others = others_stay;
  }

  -- the writing of the frames was cut short
  pub shown_cut : (text : List ℕ) → AppendsFront drawn (b.name outputs.frames) b c → IsCall b c → WritesSome (both frames log drawn text) a c
  shown_cut text begun call =
      let log_is = out_kept log frames outputs.log [] b c before.log_is call (λ same. apart (sym same)) frames_alone in
      record {
        begun = inr (
          front_of_begun frames outputs.frames [] drawn drawn a b c before.frames_are before.ran.call begun refl,
          (front_of_out log outputs.log 0 [] [] a c log_is refl (call_then_call a b c before.ran.call call), tt),
        );
        others = others_stay;
      }

-- After the two files were made, and a call wrote the frames of a history into the first one

module _
    (frames log : Name) (apart : frames ≢ log) (outputs : Outputs) (a b d : Shelved) (p : Plan) (h : List Entry) (buffers : ℕ)
    (frames_made : IsOut frames outputs.frames [] b) (log_made : IsOut log outputs.log [] b) (others : KeepsAllBut (frames ∷ log ∷ []) a b)
    (began : Behaves a b (Ok outputs)) (kept : KeepsOthers (b.name outputs.frames) b d)
  where
    before : Stands frames log outputs [] [] a b
    before = made_stands frames log outputs a b frames_made log_made others began

    -- it was cut short
    pub frames_begun :
        AppendsFront (frames_of p h buffers) (b.name outputs.frames) b d → IsCall b d → WritesSome (frames_and_log frames log p h buffers) a d
    frames_begun begun call = shown_cut frames log apart outputs a b d (frames_of p h buffers) before kept (log_of p h) begun call

    module _ (added : Appends (frames_of p h buffers) (b.name outputs.frames) b d) (ran : Ran b d) where
      -- the log is still empty
      pub frames_whole : Stands frames log outputs (frames_of p h buffers) [] a d
      frames_whole = shown_stands frames log apart outputs a b d (frames_of p h buffers) before kept added ran

      module _ (rest : Rest) (is : rest ≡ rest_of p h) (e : Shelved) (alone : KeepsOthers (d.name outputs.log) d e) where
        -- the log was cut short
        pub log_begun : AppendsFront (log_text h rest) (d.name outputs.log) d e → IsCall d e → WritesSome (frames_and_log frames log p h buffers) a e
        log_begun begun call =
            log_cut frames log apart outputs a d e (frames_of p h buffers) (log_of p h) frames_whole
            (subst (λ (r : Rest). AppendsFront (log_text h r) (d.name outputs.log) d e) is begun) alone call

        -- both are whole
        pub both_whole : Appends (log_text h rest) (d.name outputs.log) d e → Ran d e → WritesAll (frames_and_log frames log p h buffers) a e
        both_whole more then =
            stands_whole frames log outputs (frames_of p h buffers) a e (log_of p h)
            (log_stands frames log apart outputs a d e (frames_of p h buffers) (log_of p h) frames_whole
            (subst (λ (r : Rest). Appends (log_text h r) (d.name outputs.log) d e) is more) alone then)

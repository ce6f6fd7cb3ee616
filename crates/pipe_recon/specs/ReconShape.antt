-- Whether a value spells a reconciliation: a test.
use Rattle.std.specs.Prelude.{codes, Bool}
use Rattle.serde_json.specs.Data.{Data}
use Rattle.pipe_job.specs.Kinds.{is_job_back}
use Rattle.pipe_job.specs.Shape.{after, is_frame, is_list, is_text, is_truth, is_unsigned, on_couple, on_object}

abbrev pub are_two_frames : Data → Bool
are_two_frames d = on_couple is_frame is_frame d

-- whether a value spells one, as far as its version says nothing of its types
abbrev pub is_recon_job : Data → Bool
is_recon_job d =
    on_object (after (codes "chunk_rows") (is_unsigned 32)
    (after (codes "frames") are_two_frames
    (after (codes "join_nulls") is_truth
    (after (codes "on") (is_list is_text) is_job_back)))) d

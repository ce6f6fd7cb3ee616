-- Where a member isn't as it has to be, the value spells no reconciliation.
use Rattle.std.proofs.Common.{◌≡◌, ℕ, List, Bool, false, ◌&&◌, codes, ap, ◌∙◌, Result, Ok, Err}
use Rattle.std.specs.Result.{IsErrAnd}
use Rattle.serde_json.specs.Data.{Data, object, Members, member}
use Rattle.pipe_job.specs.Kinds.{is_job_back}
use Rattle.pipe_job.specs.Reads.{ReadWhere}
use Rattle.pipe_job.specs.Shape.{after, has, is_list, is_text, is_truth, is_unsigned}
use Rattle.pipe_job.specs.declared.misread.Misread.{Misread}
use Rattle.pipe_job.specs.declared.misread.Misread.TheVariants.{Other, Memory}
use Rattle.pipe_job.proofs.Shapes.{after_here, after_later, on_object_false}
use Rattle.pipe_recon.specs.ReconShape.{are_two_frames, is_recon_job}

abbrev from_names : Members → Bool
from_names ms = after (codes "on") (is_list is_text) is_job_back ms

abbrev from_nulls : Members → Bool
from_nulls ms = after (codes "join_nulls") is_truth from_names ms

abbrev from_frames : Members → Bool
from_frames ms = after (codes "frames") are_two_frames from_nulls ms

abbrev from_start : Members → Bool
from_start ms = after (codes "chunk_rows") (is_unsigned 32) from_frames ms

no_frames : (v : Data) (all more : Members) (chunk : Data) → v ≡ object all → all ≡ member (codes "chunk_rows") chunk more → from_frames more ≡ false → is_recon_job v ≡ false
no_frames v all more chunk e first h = on_object_false from_start v all e (after_later (codes "chunk_rows") (is_unsigned 32) from_frames all more (codes "chunk_rows") chunk first h)

no_key : (v : Data) (all more rest : Members) (chunk frames : Data) → v ≡ object all → all ≡ member (codes "chunk_rows") chunk more → more ≡ member (codes "frames") frames rest → from_nulls rest ≡ false → is_recon_job v ≡ false
no_key v all more rest chunk frames e first second h = no_frames v all more chunk e first (after_later (codes "frames") are_two_frames from_nulls more rest (codes "frames") frames second h)

-- what stands there aren't two tables
pub other_frames : (v : Data) (all more rest : Members) (chunk frames : Data) → v ≡ object all → all ≡ member (codes "chunk_rows") chunk more → more ≡ member (codes "frames") frames rest → are_two_frames frames ≡ false → is_recon_job v ≡ false
other_frames v all more rest chunk frames e first second h =
    let here : has (codes "frames") are_two_frames more ≡ false = ap (has (codes "frames") are_two_frames) second ∙ h in
    no_frames v all more chunk e first (after_here (codes "frames") are_two_frames from_nulls more here)

-- there is no truth value behind them
pub other_nulls : (v : Data) (all more rest : Members) (chunk frames : Data) → v ≡ object all → all ≡ member (codes "chunk_rows") chunk more → more ≡ member (codes "frames") frames rest → has (codes "join_nulls") is_truth rest ≡ false → is_recon_job v ≡ false
other_nulls v all more rest chunk frames e first second h = no_key v all more rest chunk frames e first second (after_here (codes "join_nulls") is_truth from_names rest h)

no_names : (v : Data) (all more rest names : Members) (chunk frames nulls : Data) → v ≡ object all → all ≡ member (codes "chunk_rows") chunk more → more ≡ member (codes "frames") frames rest → rest ≡ member (codes "join_nulls") nulls names → from_names names ≡ false → is_recon_job v ≡ false
no_names v all more rest names chunk frames nulls e first second third h = no_key v all more rest chunk frames e first second (after_later (codes "join_nulls") is_truth from_names rest names (codes "join_nulls") nulls third h)

-- no names stand behind that
pub other_names : (v : Data) (all more rest names : Members) (chunk frames nulls : Data) → v ≡ object all → all ≡ member (codes "chunk_rows") chunk more → more ≡ member (codes "frames") frames rest → rest ≡ member (codes "join_nulls") nulls names → has (codes "on") (is_list is_text) names ≡ false → is_recon_job v ≡ false
other_names v all more rest names chunk frames nulls e first second third h = no_names v all more rest names chunk frames nulls e first second third (after_here (codes "on") (is_list is_text) is_job_back names h)

-- or not the last members
pub other_back : (v : Data) (all more rest names back : Members) (chunk frames nulls on : Data) → v ≡ object all → all ≡ member (codes "chunk_rows") chunk more → more ≡ member (codes "frames") frames rest → rest ≡ member (codes "join_nulls") nulls names → names ≡ member (codes "on") on back → is_job_back back ≡ false → is_recon_job v ≡ false
other_back v all more rest names back chunk frames nulls on e first second third fourth h = no_names v all more rest names chunk frames nulls e first second third (after_later (codes "on") (is_list is_text) is_job_back names back (codes "on") on fourth h)

pub ruleset recon_shapes = (other_frames, other_nulls, other_names, other_back)

-- a refusal that is passed on
pub passed : {X Y : Type 0} (here later : Bool) (P : X → Type 0) (Q : Y → Type 0) (e : Misread) (r : Result Y Misread) → ReadWhere later P (Err e) → IsErrAnd r (λ f. f ≡ e) → (later ≡ false → here ≡ false) → ReadWhere here Q r
passed here later P Q e (Ok y) h k up = absurd k
passed here later P Q Other (Err f) h k up = rw k (up h)
passed here later P Q Memory (Err f) h k up = rw k tt

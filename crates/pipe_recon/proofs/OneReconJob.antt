-- A value spells one reconciliation at most.
use Rattle.std.proofs.Common.{◌≡◌, ℕ, List, Bool, true, refl, ap₂, sym, ◌∙◌, ap, true≢false}
use Rattle.serde_json.specs.Data.{Data, string}
use Rattle.pipe_frame.specs.Frame.{Table}
use Rattle.pipe_plan.specs.declared.config.PipeConfig.{PipeConfig}
use Rattle.pipe_job.specs.FrameSpelling.{frame_spelling}
use Rattle.pipe_job.specs.Spelling.{list}
use Rattle.pipe_job.proofs.OneJob.{one_frame, one_texts}
use Rattle.pipe_recon.specs.declared.recon_spec.ReconSpec.{ReconSpec}
use Rattle.pipe_recon.specs.ReconSpelling.{PartsFit, Spells, has_int128, recon_spelling}
use Rattle.pipe_recon.specs.declared.recon_job.ReconJob.{ReconJob}

config_of : ℕ → ℕ → ℕ → PipeConfig
config_of w c r = record { workers = w; chunk_rows = c; row_limit = r }

config_back : (c : PipeConfig) → config_of c.workers c.chunk_rows c.row_limit ≡ c
unfolding config_of
config_back c = refl

spec_of : List (List ℕ) → Bool → ReconSpec
spec_of on join_nulls = record { on = on; join_nulls = join_nulls }

spec_back : (s : ReconSpec) → spec_of s.on s.join_nulls ≡ s
unfolding spec_of
spec_back s = refl

job_from : ℕ → PipeConfig → Table → Table → ReconSpec → ReconJob
job_from version config left right spec = record { version = version; config = config; left = left; right = right; spec = spec }

job_back : (job : ReconJob) → job_from job.version job.config job.left job.right job.spec ≡ job
unfolding job_from
job_back job = refl

one_of : (a b : ReconJob) → PartsFit a → PartsFit b → recon_spelling a ≡ recon_spelling b → a ≡ b
one_of a b h k e =
    let version : a.version ≡ b.version = cc in
    let chunk_rows : a.config.chunk_rows ≡ b.config.chunk_rows = cc in
    let row_limit : a.config.row_limit ≡ b.config.row_limit = cc in
    let workers : a.config.workers ≡ b.config.workers = cc in
    let join_nulls : a.spec.join_nulls ≡ b.spec.join_nulls = cc in
    let names : list string a.spec.on ≡ list string b.spec.on = cc in
    let left : frame_spelling a.left ≡ frame_spelling b.left = cc in
    let right : frame_spelling a.right ≡ frame_spelling b.right = cc in
    let same_config : config_of a.config.workers a.config.chunk_rows a.config.row_limit ≡ config_of b.config.workers b.config.chunk_rows b.config.row_limit = cc in
    let config : a.config ≡ b.config = sym (config_back a.config) ∙ same_config ∙ config_back b.config in
    let on = one_texts a.spec.on b.spec.on names in
    let spec : a.spec ≡ b.spec = sym (spec_back a.spec) ∙ ap₂ spec_of on join_nulls ∙ spec_back b.spec in
    let same_left = one_frame a.left b.left h.left k.left left in
    let same_right = one_frame a.right b.right h.right k.right right in
    let same : job_from a.version a.config a.left a.right a.spec ≡ job_from b.version b.config b.left b.right b.spec = cc in
    sym (job_back a) ∙ same ∙ job_back b

pub one_recon_job : (v : Data) (a b : ReconJob) → Spells v a → Spells v b → a ≡ b
one_recon_job v a b s t = one_of a b s.fits.parts t.fits.parts (sym s.spelled ∙ t.spelled)

-- where the types are not those of the version, the value spells none
pub too_early : (v : Data) (job : ReconJob) → v ≡ recon_spelling job → PartsFit job → job.version ≡ 1 → has_int128 job ≡ true → (other : ReconJob) → Spells v other → ⊥
too_early v job e h version has other s =
    let same : job ≡ other = one_of job other h s.fits.parts (sym e ∙ s.spelled) in
    let none = s.fits.types (sym (ap (λ (u : ReconJob). u.version) same) ∙ version) in
    true≢false (sym has ∙ ap has_int128 same ∙ none)

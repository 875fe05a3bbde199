-- The law, proved of the definitions.
use Rattle.osc_counted.proofs.ImageSteps.{steps_keep_images, runs_fit_images}
use Rattle.osc_counted.proofs.laws.images_fit.Goals as goal

pub returns-clause-steps : goal.returns-clause-steps
returns-clause-steps c = steps_keep_images

pub returns-clause-runs : goal.returns-clause-runs
returns-clause-runs c = runs_fit_images

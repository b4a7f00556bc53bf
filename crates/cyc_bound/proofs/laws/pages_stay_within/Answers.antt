-- The law that no run requests more heap pages than the bound states.
use Rattle.cyc_bound.specs.Pages.{most_pages}
use Rattle.cyc_bound.proofs.PageRuns.{demand_within, pages_within, runs_alike}
use Rattle.cyc_bound.proofs.laws.pages_stay_within.Goals as goal

pub returns-clause-demand : goal.returns-clause-demand
returns-clause-demand c = λ program gives_back cost input count are. demand_within program cost input gives_back are count

pub returns-clause-within : goal.returns-clause-within
returns-clause-within c = λ program gives_back cost pages calls input count are enough.
    pages_within program input (most_pages gives_back cost) (demand_within program cost input gives_back are) pages calls count enough

pub returns-clause-alike : goal.returns-clause-alike
returns-clause-alike c = λ program gives_back cost pages more calls input count are enough also.
    runs_alike program input (most_pages gives_back cost) (demand_within program cost input gives_back are) pages more calls count enough also

-- The pages, and their paths.
use Rattle.std.specs.Prelude.{ℕ, List, [], ◌∷◌, Option, codes}
use Rattle.std.specs.List.{find}
use Rattle.std.specs.Str.{bytes_eq}
use Rattle.serve_metrics.specs.declared.page.Page.{Page}
use Rattle.serve_metrics.specs.declared.page.Page.TheVariants.{Metrics, Health, Live}

abbrev pub path_of : Page → List ℕ
path_of Metrics = codes "/metrics"
path_of Health = codes "/health"
path_of Live = codes "/live"

abbrev pub page_at : List ℕ → Option Page
page_at path = find (λ page. bytes_eq path (path_of page)) (Metrics ∷ Health ∷ Live ∷ [])

mod Reaches
mod Told
mod Promising
mod Completing

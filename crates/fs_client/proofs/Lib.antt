mod Each
mod OverlayNamed
mod Refusing
mod Small
mod StandingAt
mod Trying
mod Walks
